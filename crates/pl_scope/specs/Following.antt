-- What follows from a part that was read: the part may mean anything that its result meets.
use Rattle.std.specs.Prelude.{Result, Ok, Err}
use Rattle.pl_scope.specs.Answers.{Answer, Meets, settled, then_answer}
use Rattle.pl_scope.specs.declared.made.Made.{Made}
use Rattle.pl_typing.specs.Resolved.{Resolved}
use Rattle.pl_typing.specs.declared.fail.ScopeFail.{ScopeFail}

-- by a step that makes nothing
abbrev pub Follows : {A B : Type 0} → Result A ScopeFail → (A → Resolved B) → Result B ScopeFail
    → Type 0
Follows {A} part f result = (m : Answer A) (made : Made) → Meets m part made
    → Meets (then_answer m (λ x made. settled (f x) made)) result made

-- by parts that are read behind it
abbrev pub Continues : {A B : Type 0} → Result A ScopeFail → (A → Made → Answer B) → Made
    → Result B ScopeFail → Made → Type 0
Continues {A} part f made result last =
    (m : Answer A) → Meets m part made → Meets (then_answer m f) result last

abbrev pub after : {A B : Type 0} → Resolved A → (A → B) → Resolved B
after (Ok x) f = Ok (f x)
after (Err state) f = Err state

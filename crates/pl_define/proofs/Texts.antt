-- The texts of bodies that are read.
use Rattle.std.proofs.Common.{◌≡◌, ◌-◌, ◌^◌, ◌&&◌, length, nat_lt, not, Bool, true, false, refl}
use Rattle.std.specs.Prelude.{◌==◌}
use Rattle.std.specs.List.{list_all}
use Rattle.std.specs.Str.{is_utf8, IsUtf8}
use Rattle.std.proofs.lemmas.Str.{IsUtf8-from_is_utf8}
use Rattle.pl_codec.specs.Spelling.{is_text}
use Rattle.pl_define.specs.Bodies.{is_body_text}
use Rattle.pl_lex.specs.Characters.{Text}

first_true : (a b : Bool) → (a && b) ≡ true → a ≡ true
first_true true b is = refl
first_true false b is = is

pub is_utf8_text : (text : Text) → is_body_text text ≡ true → IsUtf8 text
is_utf8_text text is =
    IsUtf8-from_is_utf8 text (first_true (is_utf8 text) (list_all (λ b. not (b == 0)) text) (first_true (is_text text) (nat_lt (length text) (2 ^ 32 - 1)) is))

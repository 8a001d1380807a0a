use Rattle.std.proofs.Common.{◌≡◌, ◌∙◌, ◌&&◌, List, ℕ, true, sym, ap, subst}
use Rattle.std.specs.Str.{is_utf8, chars}
use lib.Utf8.{encode}
use Rattle.pl_base.specs.declared.operation.Op.TheVariants.{Put}
use Rattle.pl_base.specs.declared.value.Value.{Value}
use Rattle.pl_codec.specs.Spelling.{is_define_text, is_table_name, is_stored_op}
use Rattle.pl_keeper.proofs.tests.two_commits_are_read_back.Goals as goal

pub commit-requires-clause-spelling : goal.commit-requires-clause-spelling
unfolding is_utf8 chars encode
commit-requires-clause-spelling g c = ap (λ (text : List ℕ). is_define_text text && true) c.in_ok-text.ensures

pub encode-requires : goal.encode-requires
unfolding is_utf8 chars encode
encode-requires g c =
    let row = c.from_vec-row.ensures ∙ c.in_ok-vec.ensures.items in
    subst (λ (r : List Value). is_stored_op (Put c.in-Some.table 1 r) ≡ true) (sym row) (ap (λ (n : _). is_table_name n && true && true && true) c.in-Some.ensures.is)

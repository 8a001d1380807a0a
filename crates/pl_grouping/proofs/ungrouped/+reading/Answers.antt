use Rattle.std.proofs.Common.{rules, arith}
use Rattle.std.proofs.lemmas.Grind.{common_steps}
use Rattle.pl_grouping.proofs.ReadsEquations.{reads_cast, reads_unary, reads_binary, reads_chain}
use Rattle.pl_grouping.proofs.ReadsEquations.{reads_and, reads_or, reads_case, reads_coalesce}
use Rattle.pl_grouping.proofs.ReadsEquations.{reads_combined, reads_row, reads_call, reads_in_query}
use Rattle.pl_resolved.specs.declared.expression.RExpr.{the_lemmas}
use Rattle.pl_grouping.proofs.ungrouped.+reading.Goals as goal

pub tree_inside-returns-then-not-is_begun_cast : goal.tree_inside-returns-then-not-is_begun_cast
tree_inside-returns-then-not-is_begun_cast t c =
    rw (c.in-Cast.is, reads_cast) (first_of (search (rules, the_lemmas), grind (arith, the_lemmas, common_steps)))

pub tree_inside-returns-else-not-is_begun_cast : goal.tree_inside-returns-else-not-is_begun_cast
tree_inside-returns-else-not-is_begun_cast t c =
    rw (c.in-Cast.is, reads_cast) (first_of (search (rules, the_lemmas), grind (arith, the_lemmas, common_steps)))

pub tree_inside-returns-then-not-is_begun_unary : goal.tree_inside-returns-then-not-is_begun_unary
tree_inside-returns-then-not-is_begun_unary t c =
    rw (c.in-Unary.is, reads_unary) (first_of (search (rules, the_lemmas), grind (arith, the_lemmas, common_steps)))

pub tree_inside-returns-else-not-is_begun_unary : goal.tree_inside-returns-else-not-is_begun_unary
tree_inside-returns-else-not-is_begun_unary t c =
    rw (c.in-Unary.is, reads_unary) (first_of (search (rules, the_lemmas), grind (arith, the_lemmas, common_steps)))

pub tree_inside-returns-in-Binary : goal.tree_inside-returns-in-Binary
tree_inside-returns-in-Binary t c =
    rw (c.in-Binary.is, reads_binary) (first_of (search (rules, the_lemmas), grind (arith, the_lemmas, common_steps)))

pub tree_inside-returns-in-Chain : goal.tree_inside-returns-in-Chain
tree_inside-returns-in-Chain t c =
    rw (c.in-Chain.is, reads_chain) (first_of (search (rules, the_lemmas), grind (arith, the_lemmas, common_steps)))

pub tree_inside-returns-in-And : goal.tree_inside-returns-in-And
tree_inside-returns-in-And t c =
    rw (c.in-And.is, reads_and) (first_of (search (rules, the_lemmas), grind (arith, the_lemmas, common_steps)))

pub tree_inside-returns-in-Or : goal.tree_inside-returns-in-Or
tree_inside-returns-in-Or t c =
    rw (c.in-Or.is, reads_or) (first_of (search (rules, the_lemmas), grind (arith, the_lemmas, common_steps)))

pub tree_inside-returns-in-Case : goal.tree_inside-returns-in-Case
tree_inside-returns-in-Case t c =
    rw (c.in-Case.is, reads_case) (first_of (search (rules, the_lemmas), grind (arith, the_lemmas, common_steps)))

pub tree_inside-returns-in-Coalesce : goal.tree_inside-returns-in-Coalesce
tree_inside-returns-in-Coalesce t c =
    rw (c.in-Coalesce.is, reads_coalesce) (first_of (search (rules, the_lemmas), grind (arith, the_lemmas, common_steps)))

pub tree_inside-returns-in-Combined : goal.tree_inside-returns-in-Combined
tree_inside-returns-in-Combined t c =
    rw (c.in-Combined.is, reads_combined) (first_of (search (rules, the_lemmas), grind (arith, the_lemmas, common_steps)))

pub tree_inside-returns-in-Row : goal.tree_inside-returns-in-Row
tree_inside-returns-in-Row t c =
    rw (c.in-Row.is, reads_row) (first_of (search (rules, the_lemmas), grind (arith, the_lemmas, common_steps)))

pub tree_inside-returns-in-Call : goal.tree_inside-returns-in-Call
tree_inside-returns-in-Call t c =
    rw (c.in-Call.is, reads_call) (first_of (search (rules, the_lemmas), grind (arith, the_lemmas, common_steps)))

pub tree_inside-returns-else-query_reads : goal.tree_inside-returns-else-query_reads
tree_inside-returns-else-query_reads t c =
    rw (c.in-InQuery.is, reads_in_query) (first_of (search (rules, the_lemmas), grind (arith, the_lemmas, common_steps)))

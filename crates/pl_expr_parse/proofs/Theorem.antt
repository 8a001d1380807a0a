-- Whole texts: what is read is spelled so, as that tree alone, and what isn't read is spelled by none.
use Rattle.std.proofs.Common.{◌≡◌, []}
use Rattle.pl_grammar.specs.Marks.{Tokens}
use Rattle.pl_grammar.specs.Rule.{SpelledBy}
use Rattle.pl_grammar.proofs.Tools.{Gives}
use Rattle.pl_grammar.proofs.WholeTexts.{whole_found, whole_only, whole_none}
use Rattle.pl_expr_parse.specs.Grammar.{Part, Tree, rule}
use Rattle.pl_expr_parse.specs.Finished.{finished, reads_front}
use Rattle.pl_expr_parse.proofs.Finished.{lawful}

pub found : (p : Part) (ts : Tokens) (a : Tree p) → Gives (reads_front p ts) a [] → SpelledBy rule p a ts
found p ts a h = whole_found (finished p) (lawful p) ts a h

pub only : (p : Part) (ts : Tokens) (a b : Tree p) → Gives (reads_front p ts) a [] → SpelledBy rule p b ts → b ≡ a
only p ts a b h k = whole_only (finished p) (lawful p) ts a b h k

pub none : (p : Part) (ts : Tokens) → ((a : Tree p) → Gives (reads_front p ts) a [] → ⊥) → (a : Tree p) → SpelledBy rule p a ts → ⊥
none p ts h a k = whole_none (finished p) (lawful p) ts h a k

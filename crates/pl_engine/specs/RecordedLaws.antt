-- Proofs that other crates' proofs may cite; no definition. What a recorder takes joins.
use Rattle.std.proofs.Common.{◌≡◌, ◌≤◌, ◌∙◌, ℕ, List, [], ◌∷◌, ◌++◌, arith, refl, subst}
use Rattle.pl_engine.specs.Recorded.{Lead, Taken, Takes, with_lines, with_payload}
use Rattle.pl_world.specs.pl_journal.Journal.{LeadsTo}
use Rattle.pl_world.specs.Trace.{Committed, Event, Failed, Said, last_commit}
use Rattle.pl_undo.specs.Database.{Database}

pub takes_join : (es fs : List Event) (db : Database) (a b c : Taken) → Takes es db a b → Takes fs (last_commit es db) b c → Takes (es ++ fs) db a c
takes_join [] fs db a b c one two = subst (λ (t : Taken). Takes fs db t c) one two
takes_join (Said lines ∷ es) fs db a b c one two = takes_join es fs db (with_lines lines a) b c one two
takes_join (Failed lines ∷ es) fs db a b c one two = takes_join es fs db (with_lines lines a) b c one two
takes_join (Committed now ∷ es) fs db a b c one two = (one.0, one.1, takes_join es fs now (with_payload one.0 a) b c one.2 two)

-- one payload more
pub leads_on : (ps : List (List ℕ)) (p : List ℕ) (first last now : Database) → Lead ps first last → LeadsTo p last now → Lead (ps ++ p ∷ []) first now
leads_on [] p first last now same leads = (now, subst (λ (db : Database). LeadsTo p db now) same leads, refl)
leads_on (q ∷ ps) p first last now lead leads = (lead.0, lead.1, leads_on ps p lead.0 last now lead.2 leads)

-- the counts of a recorder
pub counts_join : {a b c : ℕ} → b ≡ a → c ≡ b → c ≡ a
counts_join one two = two ∙ one

pub counts_rise : {a b : ℕ} → b ≡ a → (a ≤ b) × (a ≤ b)
counts_rise same = (omega (arith, same), omega (arith, same))

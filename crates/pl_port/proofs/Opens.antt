-- Proofs that other crates' proofs may cite; no definition. From the batches of a store to the database that it opens to.
use Rattle.std.proofs.Common.{◌≡◌, ℕ, suc, length, nat_eq, eqb-true, arith, List, [], ◌∷◌, ◌++◌, Option, Some, None, Result, Ok, Err, true, refl, sym, ◌∙◌, ap, subst}
use Rattle.std.specs.Prelude.{option_and_then}
use Rattle.std.specs.List.{AllByRecursion}
use Rattle.std.proofs.lemmas.Option.{option_and_then_some}
use Rattle.pl_base.specs.Image.{Image}
use Rattle.pl_base.specs.declared.area.Area.{Area}
use Rattle.pl_base.specs.declared.operation.Op.{Op}
use Rattle.pl_codec.proofs.ReadsBack.{EachOp, all_back}
use Rattle.pl_codec.specs.ReadBack.{OpReadsBack}
use Rattle.pl_codec.specs.Reading.{operations_of, ops_within}
use Rattle.pl_disk.specs.Disk.{View, Keeps}
use Rattle.pl_engine.specs.pl_journal.Journal.{LeadsTo}
use Rattle.pl_engine.specs.pl_journal.Operation.{apply_all, apply_payload, empty}
use Rattle.pl_keeper.specs.Batches.{Damage, Log, Stored, batches}
use Rattle.pl_keeper.specs.Store.{Has, CommittedPayload}
use Rattle.pl_keeper.specs.declared.head.Head.{Head}
use Rattle.pl_meaning.specs.Opening.{apply_batches, in_area, opened_by, opens}
use Rattle.pl_port.specs.Stores.{Stores}
use Rattle.pl_undo.specs.Database.{Database}

-- one batch, and those behind it
abbrev pub after : Stored → List Stored → Option Database → Result Database ℕ
after stored list o = elim o [ None ↦ Err stored.0 | Some next ↦ apply_batches list next ]

pub apply_batches-append : (xs ys : List Stored) (db mid : Database) → apply_batches xs db ≡ Ok mid → apply_batches (xs ++ ys) db ≡ apply_batches ys mid
apply_batches-append [] ys db mid is = let same : db ≡ mid = cc in ap (λ (d : Database). apply_batches ys d) same
apply_batches-append (stored ∷ xs) ys db mid is =
    (elim (apply_all stored.1 db) as (λ (o : Option Database). after stored xs o ≡ Ok mid → after stored (xs ++ ys) o ≡ apply_batches ys mid)
    [ None ↦ λ h. absurd (err_ok stored.0 mid h) | Some next ↦ λ h. apply_batches-append xs ys next mid h ]) is
  where
    err_ok : (at : ℕ) (mid : Database) → (let r : Result Database ℕ = Err at in r ≡ Ok mid) → ⊥
    err_ok at mid h = cc

-- one batch more
pub leads_on : (list : List Stored) (at : ℕ) (ops : List Op) (db next : Database) → apply_batches list empty ≡ Ok db → apply_all ops db ≡ Some next → apply_batches (list ++ (at, ops) ∷ []) empty ≡ Ok next
leads_on list at ops db next leads done = apply_batches-append list ((at, ops) ∷ []) empty db leads ∙ ap (λ (o : Option Database). after (at, ops) [] o) done

-- the operations of a payload that leads to a database
pub spelled_by : (payload : List ℕ) (db next : Database) → apply_payload payload db ≡ Some next → (ops : List Op) × (operations_of payload ≡ Some ops) × (apply_all ops db ≡ Some next)
spelled_by payload db next done = option_and_then_some (λ ops. apply_all ops db) (operations_of payload) next done (λ ops spelled leads. (ops, spelled, leads))

each_back : (ops : List Op) → AllByRecursion OpReadsBack ops → EachOp ops
each_back [] back = tt
each_back (op ∷ ops) back = (back.0, each_back ops back.1)

-- what a payload leads to is what its operations do
pub applied : (payload : List ℕ) (db next : Database) → LeadsTo payload db next → apply_payload payload db ≡ Some next
applied payload db next it =
    ap (λ (p : List ℕ). option_and_then (λ ops. apply_all ops db) (operations_of p)) it.spelled
    ∙ ap (λ (o : Option (List Op)). option_and_then (λ ops. apply_all ops db) o) (all_back it.ops (each_back it.ops it.back))
    ∙ it.leads

no_operations : operations_of [] ≡ Some []
unfolding operations_of ops_within
no_operations = refl

pub no_bytes : (payload : List ℕ) → nat_eq (length payload) 0 ≡ true → payload ≡ []
no_bytes [] is = refl
no_bytes (b ∷ bytes) is = absurd (omega (arith, eqb-true (suc (length bytes)) 0 is))

-- an empty one leads nowhere
pub nothing_applied : (payload : List ℕ) (db next : Database) → payload ≡ [] → apply_payload payload db ≡ Some next → next ≡ db
nothing_applied payload db next none is =
    let same : Some db ≡ Some next =
    sym (ap (λ (o : Option (List Op)). option_and_then (λ ops. apply_all ops db) o) no_operations)
    ∙ ap (λ (p : List ℕ). apply_payload p db) (sym none) ∙ is in
    cc

pub opens_by : (c : Image) (area : Area) (list : List Stored) (db : Database) → batches c ≡ Ok (record { area = area; list = list }) → apply_batches list empty ≡ Ok db → opens c ≡ Ok db
unfolding opens
opens_by c area list db has leads = ap (λ (r : Result Log Damage). opened_by r) has ∙ ap (λ (r : Result Database ℕ). in_area area r) leads

pub stores_open : (v : View) (keeper : Head) (db : Database) → Stores v keeper db → (c : Image) → v.may_leave c → opens c ≡ Ok db
stores_open v keeper db stores c left = opens_by c keeper.area stores.list db (ap batches (stores.store.settled c left) ∙ stores.store.has.batches) stores.leads

-- a store after a commit, and one that stays
pub stores_on : (a b : View) (old new : Head) (payload : List ℕ) (db next : Database) → CommittedPayload a b old new payload → Stores a old db → apply_payload payload db ≡ Some next → Stores b new next
stores_on a b old new payload db next committed s done =
    let it = spelled_by payload db next done in
    record {
      list = s.list ++ (old.end, it.0) ∷ [];
      store = committed it.0 it.1 s.list s.store;
      leads = leads_on s.list old.end it.0 db next s.leads it.2;
    }

pub stores_still : (a d : View) (keeper : Head) (db : Database) → Keeps a d → Stores a keeper db → Stores d keeper db
stores_still a d keeper db keeps s = record {
  list = s.list;
  store = record {
    settled = λ c left. s.store.settled c (keeps.crash c left) ∙ sym keeps.seen;
    has = subst (λ (i : Image). Has s.list keeper i) (sym keeps.seen) s.store.has;
  };
  leads = s.leads;
}

-- Operations behind others, and their spellings.
use Rattle.std.proofs.Common.{◌≡◌, ◌++◌, ◌∙◌, ℕ, List, [], ◌∷◌, length, take, Option, Some, None, refl, sym, ap, append_assoc}
use Rattle.std.specs.Prelude.{option_and_then}
use Rattle.std.specs.List.{AllByRecursion}
use Rattle.std.proofs.lemmas.List.{append-nil, flat_map_more, nil_from_length}
use Rattle.std.proofs.Math.Seq.{take-append_seam}
use Rattle.pl_base.specs.declared.operation.Op.{Op}
use Rattle.pl_codec.proofs.ReadsBack.{all_back, EachOp}
use Rattle.pl_codec.specs.ReadBack.{OpReadsBack}
use Rattle.pl_codec.specs.Reading.{operations_of}
use Rattle.pl_codec.specs.Spelling.{op_bytes, ops_bytes}
use Rattle.pl_journal.specs.Journal.{LeadsTo}
use Rattle.pl_journal.specs.Operation.{apply, apply_all, apply_payload}
use Rattle.pl_journal.proofs.Truths.{none_some, some_is}
use Rattle.pl_undo.specs.Database.{Database}

pub apply_all-append : (xs ys : List Op) (d mid : Database) → apply_all xs d ≡ Some mid → apply_all (xs ++ ys) d ≡ apply_all ys mid
apply_all-append [] ys d mid is = ap (λ (e : Database). apply_all ys e) (some_is d mid is)
apply_all-append (op ∷ xs) ys d mid is =
    (elim (apply op d) as (λ (o : Option Database). option_and_then (apply_all xs) o ≡ Some mid → option_and_then (apply_all (xs ++ ys)) o ≡ apply_all ys mid)
    [ None ↦ λ h. absurd (none_some mid h) | Some next ↦ λ h. apply_all-append xs ys next mid h ]) is

pub one_more : (xs : List Op) (op : Op) (d mid next : Database) → apply_all xs d ≡ Some mid → apply op mid ≡ Some next → apply_all (xs ++ op ∷ []) d ≡ Some next
one_more xs op d mid next is done = apply_all-append xs (op ∷ []) d mid is ∙ ap (λ (o : Option Database). option_and_then (apply_all []) o) done

pub stops : (all xs ys : List Op) (op : Op) (d mid : Database) → all ≡ xs ++ (op ∷ ys) → apply_all xs d ≡ Some mid → apply op mid ≡ None → apply_all all d ≡ None
stops all xs ys op d mid split is none =
    ap (λ (l : List Op). apply_all l d) split ∙ apply_all-append xs (op ∷ ys) d mid is ∙ ap (λ (o : Option Database). option_and_then (apply_all ys) o) none

pub all_applied : (ops xs rest : List Op) (d now : Database) → ops ≡ xs ++ rest → length rest ≡ 0 → apply_all xs d ≡ Some now → apply_all ops d ≡ Some now
all_applied ops xs rest d now split none is =
    ap (λ (l : List Op). apply_all l d) (split ∙ ap (λ (l : List Op). xs ++ l) (nil_from_length rest none) ∙ append-nil xs) ∙ is

pub moved : (ops xs rest after : List Op) (op : Op) → ops ≡ xs ++ rest → rest ≡ op ∷ after → ops ≡ (xs ++ op ∷ []) ++ after
moved ops xs rest after op split is = split ∙ ap (λ (l : List Op). xs ++ l) is ∙ sym (append_assoc xs (op ∷ []) after)

-- what was spelled
pub spelled_more : (payload : List ℕ) (xs : List Op) (op : Op) → payload ≡ ops_bytes xs → payload ++ op_bytes op ≡ ops_bytes (xs ++ op ∷ [])
spelled_more payload xs op is = ap (λ (bytes : List ℕ). bytes ++ op_bytes op) is ∙ flat_map_more op_bytes [] xs op

pub back-append : (xs ys : List Op) → AllByRecursion OpReadsBack xs → AllByRecursion OpReadsBack ys → AllByRecursion OpReadsBack (xs ++ ys)
back-append [] ys first second = second
back-append (op ∷ xs) ys first second = (first.0, back-append xs ys first.1 second)

each_op : (xs : List Op) → AllByRecursion OpReadsBack xs → EachOp xs
each_op [] all = tt
each_op (x ∷ xs) all = (all.0, each_op xs all.1)

-- nothing was changed
pub leads_nowhere : (d : Database) → LeadsTo [] d d
leads_nowhere d = record { ops = []; spelled = refl; back = tt; leads = refl }

pub leads_more : (payload : List ℕ) (last now next : Database) (op : Op) → LeadsTo payload last now → OpReadsBack op → apply op now ≡ Some next → LeadsTo (payload ++ op_bytes op) last next
leads_more payload last now next op so back done =
    record { ops = so.ops ++ op ∷ []; spelled = spelled_more payload so.ops op so.spelled; back = back-append so.ops (op ∷ []) so.back (back, tt); leads = one_more so.ops op last now next so.leads done }

-- a payload that is read from a store leads to the same
pub applied : (payload : List ℕ) (last now : Database) → LeadsTo payload last now → apply_payload payload last ≡ Some now
applied payload last now so =
    ap (λ (o : Option (List Op)). option_and_then (λ (ops : List Op). apply_all ops last) o) (ap (λ (bytes : List ℕ). operations_of bytes) so.spelled ∙ all_back so.ops (each_op so.ops so.back)) ∙ so.leads

-- the payload is cut back to what it was
pub cut_back : (old longer bytes cut : List ℕ) (size : ℕ) → longer ≡ old ++ bytes → size ≡ length old → cut ≡ take size longer → cut ≡ old
cut_back old longer bytes cut size is so cuts =
    cuts ∙ (ap (λ (n : ℕ). take n longer) so ∙ (ap (λ (l : List ℕ). take (length old) l) is ∙ take-append_seam old bytes))

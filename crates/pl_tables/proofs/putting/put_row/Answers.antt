use Rattle.std.proofs.Common.{◌≡◌, ◌∙◌, Bool, true, false, List, ℕ, sym, ap, subst}
use Rattle.pl_history.specs.History.{History}
use Rattle.pl_unique.specs.RowKeys.{columns_of}
use Rattle.pl_tables.specs.Rows.{Content, Holds}
use Rattle.pl_tables.specs.Undo.{content, laid, Kept}
use Rattle.pl_tables.proofs.Laying.{laid_seen, on_err, on_ok, rest_laid, same_content}
use Rattle.pl_tables.proofs.putting.put_row.Goals as goal

pub lay_row-requires : goal.lay_row-requires
lay_row-requires c =
    record { step = c.place_for.ensures.step; rest = c.place_for.ensures.rest; place = c.in-Ok.ensures.place; below = c.requires.below }

pub returns-in-Ok-clause-columns : goal.returns-in-Ok-clause-columns
returns-in-Ok-clause-columns c = c.lay_row.ensures.columns ∙ c.place_for.ensures.columns

pub returns-in-Ok-clause-rest : goal.returns-in-Ok-clause-rest
returns-in-Ok-clause-rest c =
    rest_laid c.lay_row.result (laid c.in-Ok.place c.args.id c.args.row c.place_for.new.heap.current) c.place_for.new.heap c.lay_row.new.heap c.lay_row.ensures.ok c.lay_row.ensures.err c.place_for.ensures.rest

pub returns-in-Ok-clause-ok : goal.returns-in-Ok-clause-ok
returns-in-Ok-clause-ok c =
    let h = c.args.heap.now in
    let cols = columns_of c.args.keys.now.items in
    let mid = c.place_for.new.heap in
    let seen : content cols mid.current ≡ content cols h.current = same_content cols mid.current h.current c.place_for.ensures.content in
    on_ok c.lay_row.result c.lay_row.ensures.ok (λ is.
    laid_seen cols c.args.id c.args.row mid.current (content cols h.current) c.lay_row.new.heap c.in-Ok.place c.lay_row.ensures.order c.in-Ok.ensures.place seen is)

pub returns-in-Ok-clause-err : goal.returns-in-Ok-clause-err
returns-in-Ok-clause-err c =
    let h = c.args.heap.now in
    let cols = columns_of c.args.keys.now.items in
    let mid = c.place_for.new.heap in
    let seen : content cols mid.current ≡ content cols h.current = same_content cols mid.current h.current c.place_for.ensures.content in
    on_err c.lay_row.result c.lay_row.ensures.err (λ is. ap (λ (g : History Kept). content cols g.current) is ∙ seen)

pub returns-in-Ok-clause-free : goal.returns-in-Ok-clause-free
returns-in-Ok-clause-free c =
    let h = c.args.heap.now in
    let cols = columns_of c.args.keys.now.items in
    let mid = c.place_for.new.heap in
    let seen : content cols mid.current ≡ content cols h.current = same_content cols mid.current h.current c.place_for.ensures.content in
    let same : content (columns_of c.place_for.new.keys.items) mid.current ≡ content cols h.current = ap (λ (cs : List (List ℕ)). content cs mid.current) c.place_for.ensures.columns ∙ seen in
    on_ok c.lay_row.result c.lay_row.ensures.free (λ free holder holds. free holder (subst (λ (k : Content). Holds c.args.row k holder) (sym same) holds))

pub returns-in-Ok-clause-taken : goal.returns-in-Ok-clause-taken
returns-in-Ok-clause-taken c holder e =
    let h = c.args.heap.now in
    let cols = columns_of c.args.keys.now.items in
    let mid = c.place_for.new.heap in
    let seen : content cols mid.current ≡ content cols h.current = same_content cols mid.current h.current c.place_for.ensures.content in
    let same : content (columns_of c.place_for.new.keys.items) mid.current ≡ content cols h.current = ap (λ (cs : List (List ℕ)). content cs mid.current) c.place_for.ensures.columns ∙ seen in
    let t = c.lay_row.ensures.taken holder e in
    (t.0, subst (λ (k : Content). Holds c.args.row k holder) same t.1)

pub returns-in-Ok-clause-full : goal.returns-in-Ok-clause-full
returns-in-Ok-clause-full c =
    let room : c.has_room.result ≡ true = c.if-not-has_room.false in
    (λ e. absurd (c.lay_row.ensures.full e), λ f. absurd (let b : (let x : Bool = true in x ≡ false) = sym room ∙ (c.has_room.ensures ∙ f) in cc))

pub returns-in-Err-clause-err : goal.returns-in-Err-clause-err
returns-in-Err-clause-err c =
    same_content (columns_of c.args.keys.now.items) c.place_for.new.heap.current c.args.heap.now.current c.place_for.ensures.content

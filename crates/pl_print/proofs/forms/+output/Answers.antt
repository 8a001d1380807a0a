use Rattle.std.proofs.Common.{◌≡◌, ℕ, List, ◌++◌, ap, sym, ◌∙◌, subst, OnOk, codes, rules}
use Rattle.pl_print.specs.TextForm.{output, field_text, row_text}
use Rattle.pl_print.proofs.RowText.{output-Row}
use Rattle.pl_print.proofs.Joins.{one_more}
use Rattle.pl_print.proofs.forms.+output.Goals as goal

pub push_value-returns-in-Row : goal.push_value-returns-in-Row
push_value-returns-in-Row t c =
    let same : row_text c.as_slice.result.now ≡ output c.args.value.now =
    ap row_text c.as_slice.ensures ∙ (sym (output-Row c.in-Row.fields) ∙ sym (ap output c.in-Row.is)) in
    let P : List ℕ → Type 0 = λ bytes. OnOk c.push_row.result (c.push_row.new.out.items ≡ c.args.out.now.items ++ bytes) in
    subst P same c.push_row.ensures

pub push_fields-loop-field-preserved : goal.push_fields-loop-field-preserved
push_fields-loop-field-preserved t c =
    let between : c.extend_from_slice.new.self.items ≡ c.loop-field.out.items ++ c.loop-field.separator.now = search rules in
    let after : c.push_field.new.out.items ≡ c.extend_from_slice.new.self.items ++ field_text c.field-item.result = search rules in
    one_more field_text (codes ",") c.args.fields.now c.loop-field.field-index c.field-item.result c.args.out.now.items c.loop-field.separator.now _ _ _ c.loop-field-test.true c.field-item.is c.loop-field.invariant.0 c.loop-field.invariant.1 between after

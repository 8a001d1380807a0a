use Rattle.std.proofs.Common.{◌≡◌, ◌∷◌, ◌∙◌, List, ap, slice_get, subst, sym}
use Rattle.std.specs.Option.{option_copied}
use Rattle.pl_base.specs.declared.operation.Op.TheVariants.{Define}
use Rattle.pl_catalog.specs.declared.object.Object.{Object}
use Rattle.pl_define.specs.Definition.{text_of}
use Rattle.pl_journal.specs.Whole.{held_ops, whole_of}
use Rattle.pl_journal.proofs.WholeParts.{all_left, next_is, none_left, nothing_is, part_stored, rest_left, AreLeft}
use Rattle.pl_journal.proofs.whole.push_objects.Goals as goal

pub loop-object-init : goal.loop-object-init
loop-object-init c =
    let ts = c.args.tables.now.current in
    let all = c.args.catalog.now.objects in
    let start = c.args.bytes.now.items in
    subst (λ (os : List Object). AreLeft (whole_of os ts) (whole_of all ts) start start) (sym c.objects-objects.ensures) (all_left (whole_of all ts) start c.requires)

pub push_object-requires : goal.push_object-requires
push_object-requires c =
    let ts = c.args.tables.now.current in
    let os = c.loop-object.objects in
    let rest = c.lend.new.self in
    let o = c.in-Some.object.now in
    let next = next_is os o (subst (λ r. option_copied r ≡ slice_get os 0) c.in-Some.is c.lend.ensures.lent) ∙ ap (λ (l : List Object). o ∷ l) (sym c.lend.ensures.rest) in
    part_stored (Define (text_of o) ∷ held_ops o ts) (whole_of rest ts) (whole_of os ts) (whole_of c.args.catalog.now.objects ts) _ _ (ap (λ (l : List Object). whole_of l ts) next) c.loop-object.invariant

pub loop-object-preserved : goal.loop-object-preserved
loop-object-preserved c =
    let ts = c.args.tables.now.current in
    let os = c.loop-object.objects in
    let rest = c.lend.new.self in
    let o = c.in-Some.object.now in
    let next = next_is os o (subst (λ r. option_copied r ≡ slice_get os 0) c.in-Some.is c.lend.ensures.lent) ∙ ap (λ (l : List Object). o ∷ l) (sym c.lend.ensures.rest) in
    rest_left (Define (text_of o) ∷ held_ops o ts) (whole_of rest ts) (whole_of os ts) (whole_of c.args.catalog.now.objects ts) _ _ _ (ap (λ (l : List Object). whole_of l ts) next) c.loop-object.invariant c.in_ok-push_object.ensures

pub returns : goal.returns
returns c =
    let ts = c.args.tables.now.current in
    let os = c.loop-object.objects in
    none_left (whole_of os ts) (whole_of c.args.catalog.now.objects ts) _ _ (ap (λ (l : List Object). whole_of l ts) (nothing_is os c.in_default.ensures.lent)) c.loop-object.invariant

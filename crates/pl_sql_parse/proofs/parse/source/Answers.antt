use Rattle.std.proofs.Common.{rules, ◌≡◌, ◌==◌, false, length}
use Rattle.pl_sql_parse.proofs.Placed.{span}
use Rattle.pl_sql_parse.proofs.parse.source.Goals as goal

pub slice_bounds-from_slice-count : goal.slice_bounds-from_slice-count
slice_bounds-from_slice-count c =
    let some : (length c.args.tokens.now == 0) ≡ false = search rules in
    let s = span c.args.text.now c.args.tokens.now c.index-tokens-0.result c.index-tokens-tokens.result some c.requires.placed in
    s.low

pub slice_bounds-from_slice-start : goal.slice_bounds-from_slice-start
slice_bounds-from_slice-start c =
    let some : (length c.args.tokens.now == 0) ≡ false = search rules in
    let s = span c.args.text.now c.args.tokens.now c.index-tokens-0.result c.index-tokens-tokens.result some c.requires.placed in
    let low = s.low in
    let high = s.high in
    let same = c.as_bytes.ensures.value in
    search rules

pub slice_bounds-from_slice-end-2 : goal.slice_bounds-from_slice-end-2
slice_bounds-from_slice-end-2 c =
    let some : (length c.args.tokens.now == 0) ≡ false = search rules in
    let s = span c.args.text.now c.args.tokens.now c.index-tokens-0.result c.index-tokens-tokens.result some c.requires.placed in
    let low = s.low in
    let high = s.high in
    let same = c.as_bytes.ensures.value in
    search rules

pub returns : goal.returns
returns c =
    let some : (length c.args.tokens.now == 0) ≡ false = search rules in
    let s = span c.args.text.now c.args.tokens.now c.index-tokens-0.result c.index-tokens-tokens.result some c.requires.placed in
    let low = s.low in
    let high = s.high in
    let is = s.is in
    let same = c.as_bytes.ensures.value in
    search rules

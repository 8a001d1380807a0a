-- Each row that stands at the front of a text is what the scan finds there, or shorter.
use Rattle.std.proofs.Common.{◌≡◌, [], ◌∷◌, ◌++◌, map, ap, sym, ◌∙◌, append_assoc}
use Rattle.std.specs.Char.{to_ascii_lowercase}
use Rattle.pl_lex.specs.Characters.{Text}
use Rattle.pl_lex.specs.Rows as row
use Rattle.pl_lex.specs.Rows.{Row}
use Rattle.pl_lex.specs.declared.token.LexemeKind.{LexemeKind}
use Rattle.pl_lex.specs.declared.token.LexemeKind.TheVariants.{Read}
use Rattle.pl_lex.specs.Scan.{scan}
use Rattle.pl_lex.proofs.Reserved.{kind_of_keyword, kind_of_name}
use Rattle.pl_lex.proofs.Reach.{Reaches, moved, blank_case}
use Rattle.pl_lex.proofs.Words.{word_case, long_word_case, number_case, great_case, spoiled_case, point_case}
use Rattle.pl_lex.proofs.Marks as m

-- as `moved`, where nothing follows
moved_end : {what other : LexemeKind} {front spelled rest : Text} → front ≡ spelled → rest ≡ [] → what ≡ other → Reaches (scan (spelled ++ [])) other spelled → Reaches (scan (front ++ rest)) what front
moved_end e n k r = rw (e, n, k) r

-- as `moved`, with the text regrouped
moved_to : {what other : LexemeKind} {front spelled : Text} (rest t : Text) → front ≡ spelled → what ≡ other → spelled ++ rest ≡ t → Reaches (scan t) other spelled → Reaches (scan (front ++ rest)) what front
moved_to rest t e k g r = rw (e, k, g) r

same_as : {what other : LexemeKind} {front : Text} (t : Text) → what ≡ other → Reaches (scan t) other front → Reaches (scan t) what front
same_as t k r = rw k r

pub complete : {what : LexemeKind} {front rest : Text} → Row what front rest → Reaches (scan (front ++ rest)) what front
complete {what} {front} {rest} (row.blank b h e k) = moved rest e k (blank_case b rest h)
complete {what} {front} {rest} (row.line_comment line h e k) = moved rest e k (m.line_case line rest h)
complete {what} {front} {rest} (row.comment text h e k) = moved rest e k (m.comment_case text rest h)
complete {what} {front} {rest} (row.keyword word h l is k) = same_as (front ++ rest) (k ∙ ap (λ x. Read x) (sym (kind_of_keyword (map to_ascii_lowercase front) word is))) (word_case front rest h l)
complete {what} {front} {rest} (row.word h l none k) = same_as (front ++ rest) (k ∙ ap (λ x. Read x) (sym (kind_of_name (map to_ascii_lowercase front) none))) (word_case front rest h l)
complete {what} {front} {rest} (row.quoted_name name h l e k) = moved rest e k (m.name_case name rest h l)
complete {what} {front} {rest} (row.number_token h l k) = same_as (front ++ rest) k (number_case front rest h l)
complete {what} {front} {rest} (row.text_token text e k) = moved rest e k (m.text_case text rest)
complete {what} {front} {rest} (row.dollar_text tag text h l e k) = moved rest e k (m.dollar_case tag text rest h l)
complete {what} {front} {rest} (row.parameter digits h l g e k) = moved rest e k (m.parameter_case digits rest h l g)
complete {what} {front} {rest} (row.sign_token s e k) = moved rest e k (m.sign_case s rest)
complete {what} {front} {rest} (row.other_not_equal e k) = moved rest e k (m.other_not_equal_case rest)
complete {what} {front} {rest} (row.escape_text c ps h all good e k) = moved rest e k (m.escape_case c ps rest h all good)
complete {what} {front} {rest} (row.refused_escape c ps h all bad e k) = moved rest e k (m.refused_case c ps rest h all bad)
complete {what} {front} {rest} (row.endless_escape_text c ps last h all l e n k) = moved_end e n k (m.endless_escape_case c ps last h all l)
complete {what} {front} {rest} (row.endless_text text e n k) = moved_end e n k (m.endless_text_case text)
complete {what} {front} {rest} (row.endless_name name e n k) = moved_end e n k (m.endless_name_case name)
complete {what} {front} {rest} (row.endless_dollar tag text h l e n k) = moved_end e n k (m.endless_dollar_case tag text h l)
complete {what} {front} {rest} (row.endless_comment text o h e n k) = moved_end e n k (m.endless_comment_case text o h)
complete {what} {front} {rest} (row.long_word h l k) = same_as (front ++ rest) k (long_word_case front rest h l)
complete {what} {front} {rest} (row.long_name name l e k) = moved rest e k (m.long_name_case name rest l)
complete {what} {front} {rest} (row.empty_name e k) = moved rest e k (m.empty_name_case rest)
complete {what} {front} {rest} (row.spoiled_number digits spoiler h l e k) = moved_to rest (digits ++ (spoiler ++ rest)) e k (append_assoc digits spoiler rest) (spoiled_case digits spoiler rest h l)
complete {what} {front} {rest} (row.point_number digits more h l other e k) = moved_to rest (digits ++ (46 ∷ more ++ rest)) e k (append_assoc digits (46 ∷ more) rest) (point_case digits more rest h l other)
complete {what} {front} {rest} (row.point_first digits h e k) = moved rest e k (m.point_first_case digits rest h)
complete {what} {front} {rest} (row.great_number h l k) = same_as (front ++ rest) k (great_case front rest h l)
complete {what} {front} {rest} (row.bad_parameter digits h l e k) = moved rest e k (m.bad_parameter_case digits rest h l)
complete {what} {front} {rest} (row.stray b h e k) = moved rest e k (m.stray_case b rest h)

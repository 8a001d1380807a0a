-- The commands that are left out, as their first words tell.
use Rattle.std.specs.Prelude.{ℕ, Bool, ◌&&◌, ◌||◌, not, List, [], ◌∷◌, codes}
use Rattle.std.specs.List.{list_any}
use Rattle.pl_grammar.specs.Marks.{Tokens, Mark, word, sees, after, begins, sees_any_word}
use Rattle.pl_grammar.specs.Words.{OR}
use Rattle.pl_sql_parse.specs.Words.{CREATE, DECLARE, DROP, EXECUTE, TABLE, FUNCTION, PROCEDURE, TRIGGER, VALUES, WITH}

-- the words that begin such a command, in lower case, beside the reserved ones
abbrev pub left_out : List (List ℕ)
left_out =
    codes "alter" ∷ codes "analyze" ∷ codes "checkpoint" ∷ codes "close" ∷ codes "cluster" ∷ codes "comment" ∷ codes "copy" ∷
    codes "deallocate" ∷ codes "discard" ∷ codes "explain" ∷ codes "fetch" ∷ codes "grant" ∷ codes "import" ∷
    codes "listen" ∷ codes "load" ∷ codes "lock" ∷ codes "merge" ∷ codes "move" ∷ codes "notify" ∷ codes "prepare" ∷
    codes "reassign" ∷ codes "refresh" ∷ codes "reindex" ∷ codes "reset" ∷ codes "revoke" ∷ codes "security" ∷ codes "set" ∷
    codes "show" ∷ codes "truncate" ∷ codes "unlisten" ∷ codes "vacuum" ∷ []

-- the reserved words that do
abbrev pub reserved : List Mark
reserved = DECLARE ∷ EXECUTE ∷ TABLE ∷ VALUES ∷ WITH ∷ []

unfoldable pub begins_left_out : Tokens → Bool
begins_left_out ts = begins reserved ts || list_any (λ w. sees (word w) ts) left_out

-- a word other than these comes next
abbrev pub sees_other : List Mark → Tokens → Bool
sees_other known ts = sees_any_word ts && not (begins known ts)

abbrev pub created : List Mark
created = TABLE ∷ FUNCTION ∷ PROCEDURE ∷ TRIGGER ∷ OR ∷ []

abbrev pub dropped : List Mark
dropped = FUNCTION ∷ PROCEDURE ∷ TRIGGER ∷ TABLE ∷ []

-- the first word is one of those, or it is CREATE or DROP before a word that isn't known there
abbrev pub is_left_out : Tokens → Bool
is_left_out ts = begins_left_out ts || (sees CREATE ts && sees_other created (after CREATE ts)) || (sees DROP ts && sees_other dropped (after DROP ts))

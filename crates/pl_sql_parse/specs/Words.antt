-- More words of the grammar, in capitals as the grammar writes them.
use Rattle.std.specs.Prelude.{codes}
use Rattle.pl_lex.specs.declared.keyword.Keyword.TheVariants as k
use Rattle.pl_grammar.specs.Marks.{Mark, keyword, word}

-- ---- reserved words

abbrev pub BEGIN : Mark
BEGIN = keyword k.Begin

abbrev pub CHECK : Mark
CHECK = keyword k.Check

abbrev pub CONSTRAINT : Mark
CONSTRAINT = keyword k.Constraint

abbrev pub CREATE : Mark
CREATE = keyword k.Create

abbrev pub DECLARE : Mark
DECLARE = keyword k.Declare

abbrev pub DEFAULT : Mark
DEFAULT = keyword k.Default

abbrev pub DELETE : Mark
DELETE = keyword k.Delete

abbrev pub DO : Mark
DO = keyword k.Do

abbrev pub EXECUTE : Mark
EXECUTE = keyword k.Execute

abbrev pub FOR : Mark
FOR = keyword k.For

abbrev pub FOREIGN : Mark
FOREIGN = keyword k.Foreign

abbrev pub IF : Mark
IF = keyword k.If

abbrev pub INSERT : Mark
INSERT = keyword k.Insert

abbrev pub INTO : Mark
INTO = keyword k.Into

abbrev pub PRIMARY : Mark
PRIMARY = keyword k.Primary

abbrev pub REFERENCES : Mark
REFERENCES = keyword k.References

abbrev pub RETURNING : Mark
RETURNING = keyword k.Returning

abbrev pub TABLE : Mark
TABLE = keyword k.Table

abbrev pub TO : Mark
TO = keyword k.To

abbrev pub UNIQUE : Mark
UNIQUE = keyword k.Unique

abbrev pub UPDATE : Mark
UPDATE = keyword k.Update

abbrev pub VALUES : Mark
VALUES = keyword k.Values

abbrev pub WITH : Mark
WITH = keyword k.With

-- ---- words that are names too

abbrev pub ABORT : Mark
ABORT = word (codes "abort")

abbrev pub AFTER : Mark
AFTER = word (codes "after")

abbrev pub BEFORE : Mark
BEFORE = word (codes "before")

abbrev pub CALL : Mark
CALL = word (codes "call")

abbrev pub COMMIT : Mark
COMMIT = word (codes "commit")

abbrev pub DROP : Mark
DROP = word (codes "drop")

abbrev pub EACH : Mark
EACH = word (codes "each")

abbrev pub FUNCTION : Mark
FUNCTION = word (codes "function")

abbrev pub IMMUTABLE : Mark
IMMUTABLE = word (codes "immutable")

abbrev pub INOUT : Mark
INOUT = word (codes "inout")

abbrev pub KEY : Mark
KEY = word (codes "key")

abbrev pub LANGUAGE : Mark
LANGUAGE = word (codes "language")

abbrev pub OUT : Mark
OUT = word (codes "out")

abbrev pub PROCEDURE : Mark
PROCEDURE = word (codes "procedure")

abbrev pub RELEASE : Mark
RELEASE = word (codes "release")

abbrev pub REPLACE : Mark
REPLACE = word (codes "replace")

abbrev pub RESTRICT : Mark
RESTRICT = word (codes "restrict")

abbrev pub RETURNS : Mark
RETURNS = word (codes "returns")

abbrev pub ROLLBACK : Mark
ROLLBACK = word (codes "rollback")

abbrev pub SAVEPOINT : Mark
SAVEPOINT = word (codes "savepoint")

abbrev pub SET : Mark
SET = word (codes "set")

abbrev pub SETOF : Mark
SETOF = word (codes "setof")

abbrev pub STABLE : Mark
STABLE = word (codes "stable")

abbrev pub START : Mark
START = word (codes "start")

abbrev pub TRANSACTION : Mark
TRANSACTION = word (codes "transaction")

abbrev pub TRIGGER : Mark
TRIGGER = word (codes "trigger")

abbrev pub VOLATILE : Mark
VOLATILE = word (codes "volatile")

abbrev pub WORK : Mark
WORK = word (codes "work")

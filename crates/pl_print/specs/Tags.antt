-- Tags of commands: PostgreSQL manual, "Message Formats", CommandComplete.
use Rattle.std.specs.Prelude.{ℕ, List, ◌++◌, codes}
use Rattle.std.specs.Fmt.{decimal}
use Rattle.pl_print.specs.declared.reply.Tag.{Tag}
use Rattle.pl_print.specs.declared.reply.Tag.TheVariants.{Insert, Update, Delete, CreateTable}
use Rattle.pl_print.specs.declared.reply.Tag.TheVariants.{CreateFunction, CreateProcedure}
use Rattle.pl_print.specs.declared.reply.Tag.TheVariants.{CreateTrigger, DropTable, DropFunction}
use Rattle.pl_print.specs.declared.reply.Tag.TheVariants.{DropProcedure, DropTrigger, Do, Call}
use Rattle.pl_print.specs.declared.reply.Tag.TheVariants.{Begin, StartTransaction, Commit, Rollback}
use Rattle.pl_print.specs.declared.reply.Tag.TheVariants.{Savepoint, Release}

-- the words of a tag, and its count of rows
abbrev pub tag_text : Tag → List ℕ
tag_text (Insert n) = codes "INSERT 0 " ++ decimal n
tag_text (Update n) = codes "UPDATE " ++ decimal n
tag_text (Delete n) = codes "DELETE " ++ decimal n
tag_text CreateTable = codes "CREATE TABLE"
tag_text CreateFunction = codes "CREATE FUNCTION"
tag_text CreateProcedure = codes "CREATE PROCEDURE"
tag_text CreateTrigger = codes "CREATE TRIGGER"
tag_text DropTable = codes "DROP TABLE"
tag_text DropFunction = codes "DROP FUNCTION"
tag_text DropProcedure = codes "DROP PROCEDURE"
tag_text DropTrigger = codes "DROP TRIGGER"
tag_text Do = codes "DO"
tag_text Call = codes "CALL"
tag_text Begin = codes "BEGIN"
tag_text StartTransaction = codes "START TRANSACTION"
tag_text Commit = codes "COMMIT"
tag_text Rollback = codes "ROLLBACK"
tag_text Savepoint = codes "SAVEPOINT"
tag_text Release = codes "RELEASE"

-- a tag on a line of its own
abbrev pub tag_bytes : Tag → List ℕ
tag_bytes tag = tag_text tag ++ codes "\n"

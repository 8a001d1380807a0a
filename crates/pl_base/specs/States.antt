-- The SQLSTATEs that are raised, each by its five characters: PostgreSQL manual, "PostgreSQL Error Codes".
use Rattle.std.specs.Prelude.{codes}
use Rattle.pl_base.specs.declared.state.State.{State}

abbrev pub FEATURE_NOT_SUPPORTED : State
FEATURE_NOT_SUPPORTED = record { code = codes "0A000" }

abbrev pub STACKED_DIAGNOSTICS_ACCESSED_WITHOUT_ACTIVE_HANDLER : State
STACKED_DIAGNOSTICS_ACCESSED_WITHOUT_ACTIVE_HANDLER = record { code = codes "0Z002" }

abbrev pub CASE_NOT_FOUND : State
CASE_NOT_FOUND = record { code = codes "20000" }

abbrev pub CARDINALITY_VIOLATION : State
CARDINALITY_VIOLATION = record { code = codes "21000" }

abbrev pub NUMERIC_VALUE_OUT_OF_RANGE : State
NUMERIC_VALUE_OUT_OF_RANGE = record { code = codes "22003" }

abbrev pub NULL_VALUE_NOT_ALLOWED : State
NULL_VALUE_NOT_ALLOWED = record { code = codes "22004" }

abbrev pub ERROR_IN_ASSIGNMENT : State
ERROR_IN_ASSIGNMENT = record { code = codes "22005" }

abbrev pub SUBSTRING_ERROR : State
SUBSTRING_ERROR = record { code = codes "22011" }

abbrev pub DIVISION_BY_ZERO : State
DIVISION_BY_ZERO = record { code = codes "22012" }

abbrev pub INVALID_PARAMETER_VALUE : State
INVALID_PARAMETER_VALUE = record { code = codes "22023" }

abbrev pub INVALID_ESCAPE_SEQUENCE : State
INVALID_ESCAPE_SEQUENCE = record { code = codes "22025" }

abbrev pub INVALID_ROW_COUNT_IN_LIMIT_CLAUSE : State
INVALID_ROW_COUNT_IN_LIMIT_CLAUSE = record { code = codes "2201W" }

abbrev pub INVALID_ROW_COUNT_IN_RESULT_OFFSET_CLAUSE : State
INVALID_ROW_COUNT_IN_RESULT_OFFSET_CLAUSE = record { code = codes "2201X" }

abbrev pub INVALID_TEXT_REPRESENTATION : State
INVALID_TEXT_REPRESENTATION = record { code = codes "22P02" }

abbrev pub NOT_NULL_VIOLATION : State
NOT_NULL_VIOLATION = record { code = codes "23502" }

abbrev pub FOREIGN_KEY_VIOLATION : State
FOREIGN_KEY_VIOLATION = record { code = codes "23503" }

abbrev pub UNIQUE_VIOLATION : State
UNIQUE_VIOLATION = record { code = codes "23505" }

abbrev pub CHECK_VIOLATION : State
CHECK_VIOLATION = record { code = codes "23514" }

abbrev pub ACTIVE_SQL_TRANSACTION : State
ACTIVE_SQL_TRANSACTION = record { code = codes "25001" }

abbrev pub NO_ACTIVE_SQL_TRANSACTION : State
NO_ACTIVE_SQL_TRANSACTION = record { code = codes "25P01" }

abbrev pub IN_FAILED_SQL_TRANSACTION : State
IN_FAILED_SQL_TRANSACTION = record { code = codes "25P02" }

abbrev pub TRIGGERED_DATA_CHANGE_VIOLATION : State
TRIGGERED_DATA_CHANGE_VIOLATION = record { code = codes "27000" }

abbrev pub DEPENDENT_OBJECTS_STILL_EXIST : State
DEPENDENT_OBJECTS_STILL_EXIST = record { code = codes "2BP01" }

abbrev pub INVALID_TRANSACTION_TERMINATION : State
INVALID_TRANSACTION_TERMINATION = record { code = codes "2D000" }

abbrev pub FUNCTION_EXECUTED_NO_RETURN_STATEMENT : State
FUNCTION_EXECUTED_NO_RETURN_STATEMENT = record { code = codes "2F005" }

abbrev pub INVALID_CURSOR_NAME : State
INVALID_CURSOR_NAME = record { code = codes "34000" }

abbrev pub TRIGGER_PROTOCOL_VIOLATED : State
TRIGGER_PROTOCOL_VIOLATED = record { code = codes "39P01" }

abbrev pub INVALID_SAVEPOINT_SPECIFICATION : State
INVALID_SAVEPOINT_SPECIFICATION = record { code = codes "3B001" }

abbrev pub SYNTAX_ERROR : State
SYNTAX_ERROR = record { code = codes "42601" }

abbrev pub NAME_TOO_LONG : State
NAME_TOO_LONG = record { code = codes "42622" }

abbrev pub DUPLICATE_COLUMN : State
DUPLICATE_COLUMN = record { code = codes "42701" }

abbrev pub AMBIGUOUS_COLUMN : State
AMBIGUOUS_COLUMN = record { code = codes "42702" }

abbrev pub UNDEFINED_COLUMN : State
UNDEFINED_COLUMN = record { code = codes "42703" }

abbrev pub UNDEFINED_OBJECT : State
UNDEFINED_OBJECT = record { code = codes "42704" }

abbrev pub DUPLICATE_OBJECT : State
DUPLICATE_OBJECT = record { code = codes "42710" }

abbrev pub DUPLICATE_ALIAS : State
DUPLICATE_ALIAS = record { code = codes "42712" }

abbrev pub DUPLICATE_FUNCTION : State
DUPLICATE_FUNCTION = record { code = codes "42723" }

abbrev pub GROUPING_ERROR : State
GROUPING_ERROR = record { code = codes "42803" }

abbrev pub DATATYPE_MISMATCH : State
DATATYPE_MISMATCH = record { code = codes "42804" }

abbrev pub WRONG_OBJECT_TYPE : State
WRONG_OBJECT_TYPE = record { code = codes "42809" }

abbrev pub INVALID_FOREIGN_KEY : State
INVALID_FOREIGN_KEY = record { code = codes "42830" }

abbrev pub CANNOT_COERCE : State
CANNOT_COERCE = record { code = codes "42846" }

abbrev pub UNDEFINED_FUNCTION : State
UNDEFINED_FUNCTION = record { code = codes "42883" }

abbrev pub UNDEFINED_TABLE : State
UNDEFINED_TABLE = record { code = codes "42P01" }

abbrev pub UNDEFINED_PARAMETER : State
UNDEFINED_PARAMETER = record { code = codes "42P02" }

abbrev pub DUPLICATE_CURSOR : State
DUPLICATE_CURSOR = record { code = codes "42P03" }

abbrev pub DUPLICATE_TABLE : State
DUPLICATE_TABLE = record { code = codes "42P07" }

abbrev pub INVALID_COLUMN_REFERENCE : State
INVALID_COLUMN_REFERENCE = record { code = codes "42P10" }

abbrev pub INVALID_FUNCTION_DEFINITION : State
INVALID_FUNCTION_DEFINITION = record { code = codes "42P13" }

abbrev pub INVALID_TABLE_DEFINITION : State
INVALID_TABLE_DEFINITION = record { code = codes "42P16" }

abbrev pub INVALID_OBJECT_DEFINITION : State
INVALID_OBJECT_DEFINITION = record { code = codes "42P17" }

abbrev pub PROGRAM_LIMIT_EXCEEDED : State
PROGRAM_LIMIT_EXCEEDED = record { code = codes "54000" }

abbrev pub STATEMENT_TOO_COMPLEX : State
STATEMENT_TOO_COMPLEX = record { code = codes "54001" }

abbrev pub TOO_MANY_COLUMNS : State
TOO_MANY_COLUMNS = record { code = codes "54011" }

abbrev pub TOO_MANY_ARGUMENTS : State
TOO_MANY_ARGUMENTS = record { code = codes "54023" }

abbrev pub OBJECT_NOT_IN_PREREQUISITE_STATE : State
OBJECT_NOT_IN_PREREQUISITE_STATE = record { code = codes "55000" }

abbrev pub OBJECT_IN_USE : State
OBJECT_IN_USE = record { code = codes "55006" }

abbrev pub QUERY_CANCELED : State
QUERY_CANCELED = record { code = codes "57014" }

abbrev pub RAISE_EXCEPTION : State
RAISE_EXCEPTION = record { code = codes "P0001" }

abbrev pub NO_DATA_FOUND : State
NO_DATA_FOUND = record { code = codes "P0002" }

abbrev pub TOO_MANY_ROWS : State
TOO_MANY_ROWS = record { code = codes "P0003" }

abbrev pub ASSERT_FAILURE : State
ASSERT_FAILURE = record { code = codes "P0004" }

abbrev pub INTERNAL_ERROR : State
INTERNAL_ERROR = record { code = codes "XX000" }

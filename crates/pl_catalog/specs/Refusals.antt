-- When the catalogue refuses a change.
use Rattle.std.specs.Prelude.{◌≡◌, ℕ, List, Option, None, Some, option_map, Result, Ok, Err}
use Rattle.pl_catalog.specs.declared.object.Object.{Object}
use Rattle.pl_catalog.specs.declared.object.Which.{Which}
use Rattle.pl_catalog.specs.declared.catalog.CatalogFail.{CatalogFail}
use Rattle.pl_catalog.specs.declared.catalog.CatalogFail.TheVariants as fail
use Rattle.pl_catalog.specs.Dependents.{first_dependent}
use Rattle.pl_catalog.specs.Objects.{object_called}

-- a new object is refused where there is one already
abbrev pub refusal_beside : Option Object → Option CatalogFail
refusal_beside None = None
refusal_beside (Some o) = Some fail.Taken

abbrev pub add_refusal : Which → List Object → Option CatalogFail
add_refusal w os = refusal_beside (object_called w os)

-- an object is replaced where it is there
abbrev pub refusal_without : Option Object → Option CatalogFail
refusal_without None = Some fail.Absent
refusal_without (Some o) = None

abbrev pub replace_refusal : Which → List Object → Option CatalogFail
replace_refusal w os = refusal_without (object_called w os)

-- an object is dropped where it is there, and no other one needs it
abbrev pub refusal_of : Option Object → Option (List ℕ) → Option CatalogFail
refusal_of None dependent = Some fail.Absent
refusal_of (Some o) dependent = option_map fail.Dependent dependent

abbrev pub drop_refusal : Which → List Object → Option CatalogFail
drop_refusal w os = refusal_of (object_called w os) (first_dependent w os)

-- the call refuses just so; where it would not refuse, it may want memory
abbrev pub Answers : {A : Type 0} → Result A CatalogFail → Option CatalogFail → Type 0
Answers (Ok a) refusal = refusal ≡ None
Answers (Err fail.Memory) refusal = refusal ≡ None
Answers (Err f) refusal = refusal ≡ Some f

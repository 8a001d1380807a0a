-- What a host and a script over real files know: that the files are open, what failed, and whether
-- a sync has something left to do.
use Rattle.std.specs.Prelude.{◌≡◌, ◌≢◌, ◌⊎◌, ℕ, List, Option, IsSome, IsSomeAnd, IfSome, string_bytes}
use Rattle.pl_base.specs.declared.area.Area.{Area}
use Rattle.pl_base.specs.declared.area.Area.TheVariants.{A, B}
use Rattle.pl_disk.specs.Attached.{AreAttached}
use Rattle.pl_disk.specs.Disk.{View, untold}
use Rattle.pl_files.specs.declared.host.FileHost.{FileHost}
use Rattle.pl_files.specs.declared.host.StoreFiles.{StoreFiles}
use Rattle.pl_files.specs.declared.problem.Problem.{Problem}
use Rattle.pl_files.specs.declared.source.FileSource.{FileSource}
use Rattle.pl_files.specs.declared.store_file.StoreFile.{StoreFile}
use Rattle.pl_files.specs.declared.store_file.Unsynced.TheVariants.{Nothing, Lost}

-- Each write to the file was followed by a sync that succeeded.
abbrev pub IsSynced : StoreFile → Type 0
IsSynced file = file.unsynced ≡ Nothing

-- A sync of it failed: the system may have dropped what was written.
abbrev pub IsLost : StoreFile → Type 0
IsLost file = file.unsynced ≡ Lost

-- Both are synced.
abbrev pub AreSynced : StoreFiles → Type 0
AreSynced files = IsSynced files.a × IsSynced files.b

-- One of them is lost.
abbrev pub IsOneLost : StoreFiles → Type 0
IsOneLost files = IsLost files.a ⊎ IsLost files.b

-- The next sync has to sync the file of this area.
abbrev pub AwaitsIn : Area → StoreFiles → Type 0
AwaitsIn A files = files.a.unsynced ≢ Nothing
AwaitsIn B files = files.b.unsynced ≢ Nothing

-- Both files were opened under this name of the store.
abbrev pub AreNamed : List ℕ → StoreFiles → Type 0
AreNamed name files = string_bytes files.name ≡ name

-- The host holds both files, each open and locked.
abbrev pub HasFiles : FileHost → Type 0
HasFiles host = IsSome host.files

-- What is known of the host: the names that it was given, that it holds the files, and how often it
-- failed.
abbrev pub view_of : FileHost → View
view_of host = record (untold host.disk_faults) {
  attached = AreAttached host.attached;
  is_attached = HasFiles host;
  say_faults = host.say_faults;
}

-- Those that it holds were opened under this name.
abbrev pub Holds : List ℕ → FileHost → Type 0
Holds name host = IsSomeAnd host.files (AreNamed name)

-- What failed first of the disk, and what in printing.
abbrev pub disk_problem_of : FileHost → Option Problem
disk_problem_of host = host.disk_problem

abbrev pub say_problem_of : FileHost → Option Problem
say_problem_of host = host.say_problem

-- The host holds both files, and both are synced.
abbrev pub IsSettled : FileHost → Type 0
IsSettled host = IsSomeAnd host.files AreSynced

-- A sync of the host failed at one of its files.
abbrev pub HasLost : FileHost → Type 0
HasLost host = IsSomeAnd host.files IsOneLost

-- A file of the host has to be synced.
abbrev pub Awaits : Area → FileHost → Type 0
Awaits area host = IfSome host.files (AwaitsIn area)

-- These names, in order, may be all that the source was given.
abbrev pub names_of : FileSource → List (List ℕ) → Type 0
names_of source = AreAttached source.attached

-- The script is open.
abbrev pub IsOpen : FileSource → Type 0
IsOpen source = IsSome source.script

-- It is open under this name.
abbrev pub IsNamed : FileSource → List ℕ → Type 0
IsNamed source name = IsSomeAnd source.script (λ script. string_bytes script.name ≡ name)

-- How often the script failed, and what first.
abbrev pub faults_of : FileSource → ℕ
faults_of source = source.faults

abbrev pub problem_of : FileSource → Option Problem
problem_of source = source.problem

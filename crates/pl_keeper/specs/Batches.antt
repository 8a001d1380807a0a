-- The batches of a store: what its commits stored, in order.
use Rattle.std.specs.Prelude.{◌==◌, ℕ, List, [], length, take, drop, nat_lt, Option, Some, None, Result, Ok, Err, if◌then◌else◌}
use Rattle.std.specs.Int.{from_be_bytes, w64}
use Rattle.pl_base.specs.Image.{Image, file, other}
use Rattle.pl_base.specs.declared.area.Area.{Area}
use Rattle.pl_base.specs.declared.area.Area.TheVariants.{A, B}
use Rattle.pl_base.specs.declared.operation.Op.{Op}
use Rattle.pl_codec.specs.Reading.{operations_of}
use Rattle.pl_frames.specs.Format.{is_open, has_header, frames_from}

-- what one commit stored: the place of its frame's gate in the file of its area, and the operations that the frame spells
abbrev pub Stored : Type 0
Stored = ℕ × List Op

-- the batches of the area that counts; of a store to be made they are none, in area A
pub record Log : Type 0 where
  pub area : Area
  pub list : List Stored

-- where a store is malformed: the area, and the first such place in its file
pub record Damage : Type 0 where
  pub area : Area
  pub at : ℕ

-- the generation of an area, none where it is closed; or the place where its header is malformed
abbrev pub generation_in : List ℕ → Result (Option ℕ) ℕ
generation_in file =
    if is_open file
    then (if has_header file then Ok (Some (from_be_bytes w64 (take 8 (drop 9 file)))) else Err 0)
    else Ok None

-- Which of the areas that are open counts: the one with the greater generation. With equal ones area B is malformed at its generation.
abbrev pub greater : Option ℕ → Option ℕ → Result (Option Area) Damage
greater None None = Ok None
greater (Some a) None = Ok (Some A)
greater None (Some b) = Ok (Some B)
greater (Some a) (Some b) = if a == b then Err (record { area = B; at = 9 }) else Ok (Some (if nat_lt a b then B else A))

-- area A is judged before B
abbrev pub by_headers : Result (Option ℕ) ℕ → Result (Option ℕ) ℕ → Result (Option Area) Damage
by_headers (Err at) b = Err (record { area = A; at = at })
by_headers (Ok a) (Err at) = Err (record { area = B; at = at })
by_headers (Ok a) (Ok b) = greater a b

-- the area that counts, none where both are closed
abbrev pub counting : Image → Result (Option Area) Damage
counting image = by_headers (generation_in image.a) (generation_in image.b)

-- the area that doesn't count: B, where none does
abbrev pub spare_by : Result (Option Area) Damage → Area
spare_by (Ok (Some area)) = other area
spare_by (Ok None) = B
spare_by (Err damage) = B

abbrev pub spare_area : Image → Area
spare_area image = spare_by (counting image)

abbrev pub logged : Area → Result (List Stored) ℕ → Result Log Damage
logged area (Ok list) = Ok (record { area = area; list = list })
logged area (Err at) = Err (record { area = area; at = at })

-- the frames of the area that counts, from byte 17 on
abbrev pub log_in : Image → Result (Option Area) Damage → Result Log Damage
log_in image (Err damage) = Err damage
log_in image (Ok None) = Ok (record { area = A; list = [] })
log_in image (Ok (Some area)) =
    let file = file area image in
    logged area (frames_from operations_of (length file) file 17)

-- The batches of the two files, or the first place where the form of a file is malformed: the headers are judged first, and then the
-- frames of the area that counts.
unfoldable pub batches : Image → Result Log Damage
batches image = log_in image (counting image)

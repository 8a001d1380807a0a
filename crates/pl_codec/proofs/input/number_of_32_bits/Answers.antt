use Rattle.std.proofs.Common.{◌≡◌, rules}
use Rattle.std.specs.Int.{from_be_bytes, w32}
use Rattle.std.proofs.lemmas.Nat.{be_bytes_4}
use Rattle.pl_codec.proofs.input.number_of_32_bits.Goals as goal

pub returns-clause-bytes : goal.returns-clause-bytes
returns-clause-bytes c =
    let value : c.from_be_bytes.result ≡ from_be_bytes w32 c.args.bytes.now = search rules in
    be_bytes_4 c.args.bytes.now c.from_be_bytes.result c.requires (λ i. let fits = c.type_inv.bytes i in search (rules, fits)) value

use Rattle.std.proofs.Common.{ap}
use Rattle.std.proofs.lemmas.Nat.{from_le_bytes-to_le_bytes_4}
use Rattle.instruction.specs.Decoding.{ReadBack, op_of, shaped}

pub read_back : ReadBack
read_back r fits = ap (shaped (op_of r.op) r.a r.b r.c) (from_le_bytes-to_le_bytes_4 r.v fits)

-- Every theorem of this crate, a field each: proofs/Claims.antt has the value, so a theorem without a proof fails the check. Assumes nothing.
use Rattle.pointer_promises.specs.Theorems.{ReadUnique, WriteUnique, ReadExists, WriteExists, WriteThenRead, ReadLowest, WriteLowest, OutputMeasured, OldMeasured, SoundValues, DecodeEncode, EncodeDecode, FreshRow}

pub record Claims : Type 0 where
  pub read_unique : ReadUnique
  pub write_unique : WriteUnique
  pub read_exists : ReadExists
  pub write_exists : WriteExists
  pub write_then_read : WriteThenRead
  pub read_lowest : ReadLowest
  pub write_lowest : WriteLowest
  pub output_measured : OutputMeasured
  pub old_measured : OldMeasured
  pub sound_values : SoundValues
  pub decode_encode : DecodeEncode
  pub encode_decode : EncodeDecode
  pub fresh_row : FreshRow

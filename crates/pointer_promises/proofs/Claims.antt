-- The theorems of this crate, all proved. Assumes nothing.
use Rattle.pointer_promises.specs.Claims.{Claims}
use Rattle.pointer_promises.proofs.Demands.{read_exists, write_exists}
use Rattle.pointer_promises.proofs.RefusalLaws.{read_lowest, write_lowest}
use Rattle.pointer_promises.proofs.Inverse.{decode_encode, encode_decode, fresh_row}
use Rattle.pointer_promises.proofs.Unique.{read_unique, write_unique, output_measured, old_measured, sound_values, write_then_read}

pub claims : Claims
claims = record {
  read_unique = read_unique;
  write_unique = write_unique;
  read_exists = read_exists;
  write_exists = write_exists;
  write_then_read = write_then_read;
  read_lowest = read_lowest;
  write_lowest = write_lowest;
  output_measured = output_measured;
  old_measured = old_measured;
  sound_values = sound_values;
  decode_encode = decode_encode;
  encode_decode = encode_decode;
  fresh_row = fresh_row;
}

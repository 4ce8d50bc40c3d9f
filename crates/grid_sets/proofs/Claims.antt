-- The theorems of this crate, all proved. Assumes nothing.
use Rattle.grid_sets.specs.Claims.{Claims}
use Rattle.grid_sets.proofs.JudgedLaws.{unpack_numbers, convert_numbers, convert_bytes, convert_untouched}
use Rattle.grid_sets.proofs.Demands.{reads_back_lem, one_unpack, one_pack, one_convert, one_unpack_in_numbers, one_convert_in_numbers}

pub claims : Claims
claims = record {
  reads_back = reads_back_lem;
  one_unpack = one_unpack;
  one_pack = one_pack;
  one_convert = one_convert;
  unpack_numbers = unpack_numbers;
  convert_numbers = convert_numbers;
  convert_bytes = convert_bytes;
  convert_untouched = convert_untouched;
  one_unpack_in_numbers = one_unpack_in_numbers;
  one_convert_in_numbers = one_convert_in_numbers;
}

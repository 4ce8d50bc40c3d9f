-- Every theorem of this crate, a field each: proofs/Claims.antt has the value, so a theorem without a proof fails the check. Assumes nothing.
use Rattle.grid_sets.specs.Promises.{ReadsBack, OneUnpack, OnePack, OneConvert, UnpackNumbers, ConvertNumbers, ConvertBytes, ConvertUntouched, OneUnpackInNumbers, OneConvertInNumbers}

pub record Claims : Type 0 where
  pub reads_back : ReadsBack
  pub one_unpack : OneUnpack
  pub one_pack : OnePack
  pub one_convert : OneConvert
  pub unpack_numbers : UnpackNumbers
  pub convert_numbers : ConvertNumbers
  pub convert_bytes : ConvertBytes
  pub convert_untouched : ConvertUntouched
  pub one_unpack_in_numbers : OneUnpackInNumbers
  pub one_convert_in_numbers : OneConvertInNumbers

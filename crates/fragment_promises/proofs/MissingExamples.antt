-- How many bytes of case G2's block are missing, as its lumps come, and of a block that is not square. Assumes nothing.
use mathlib.Core.Path.{refl}
use mathlib.Core.List.{[], ◌∷◌}
use native.Mathlib.Omega.{arith}
use Rattle.rdis.specs.Packing.{width, bytes_for}
use Rattle.grid_promises.specs.Calls.{in_range}
use Rattle.fragment_promises.specs.Transfers.{size, standing, started, lumped}
use Rattle.fragment_promises.specs.Promises.{Misses}
use Rattle.fragment_promises.proofs.MissingLaws.{missing_refused, missing_counted}
use Rattle.fragment_promises.proofs.Examples.{after_four, after_nine}

-- nine at the start, five after the first lump, and none after the second
nine_missing : Misses (started 1 1 1) (record { number = 0; bytes = 9 })
unfolding standing size width bytes_for in_range
nine_missing = missing_counted 1 1 1 0 0 9 refl refl refl

five_missing : Misses after_four (record { number = 0; bytes = 5 })
unfolding lumped standing size width bytes_for in_range
five_missing = missing_counted 1 1 1 4 0 5 refl refl refl

none_missing : Misses after_nine (record { number = 0; bytes = 0 })
unfolding lumped standing size width bytes_for in_range
none_missing = missing_counted 1 1 1 9 0 0 refl refl refl

-- of 2 rows and 3 columns at K = 3 there are 18: two of counters and 16 of cells; after five have come, 13
eighteen_missing : Misses (started 2 3 3) (record { number = 0; bytes = 18 })
unfolding standing size width bytes_for in_range
eighteen_missing = missing_counted 2 3 3 0 0 18 refl refl refl

thirteen_missing : Misses (lumped (started 2 3 3) (228 ∷ 1 ∷ 5 ∷ 0 ∷ 0 ∷ [])) (record { number = 0; bytes = 13 })
unfolding lumped standing size width bytes_for in_range
thirteen_missing = missing_counted 2 3 3 5 0 13 refl refl refl

-- after a lump of six in place of five, and after a start with no rows, nothing is counted
refused_missing : Misses (lumped after_four (1 ∷ 1 ∷ 1 ∷ 1 ∷ 1 ∷ 1 ∷ [])) (record { number = 9; bytes = 0 })
unfolding lumped standing size width bytes_for in_range
refused_missing = missing_refused 1 1 1 561 9 refl (λ z. omega arith)

bad_missing : Misses (started 0 1 1) (record { number = 1; bytes = 0 })
unfolding standing size width bytes_for in_range
bad_missing = missing_refused 0 1 1 0 1 refl (λ z. omega arith)

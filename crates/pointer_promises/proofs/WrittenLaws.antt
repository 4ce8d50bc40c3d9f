-- Laws of the entries after a write: how many they are, that no two name the same position, and that with them each position shows its wanted bit. Assumes nothing.
use mathlib.Core.Path.{◌≡◌, refl, sym, ap, ◌∙◌}
use mathlib.Core.Bool.{Bool, true, false, not, xor, cond, ◌&&◌, ◌||◌}
use mathlib.Core.List.{List, ◌++◌}
use Prim.Native.Nat.{ℕ, ◌+◌, ◌-◌, ◌≤◌, ◌<◌}
use native.Mathlib.Nat.{mod-eq_of_lt}
use native.Mathlib.Omega.{arith}
use borrow.Author.Tests.{lt-ltb, not-true}
use lib.ListN.{length, get_or, length-append, length-map, get_or-append}
use lib.Seq.{get_or-append-add}
use Rattle.bits.specs.Bits.{at, Below}
use Rattle.bits.proofs.TestLaws.{and_right}
use Rattle.bits.proofs.ByteLaws.{below_all}
use Rattle.pointer_promises.specs.Pointer.{pointer, replacement, names, repeats, shown, unserved, positions, renewed, after, stored, needed}
use Rattle.pointer_promises.proofs.EntryLaws.{names_append, renewed_lt, renewed_pointer, renewed_replacement, get_or_renewed, repeats_renewed, shown_renewed}
use Rattle.pointer_promises.proofs.PositionLaws.{Rising, length_positions, names_positions, rising, repeats_positions}

-- a cell that holds another bit than the wanted one is stuck and wrong
wrong_served : (named stuck want value : Bool) → cond (named || (stuck && xor want value && not named)) want (cond stuck value want) ≡ want
unfolding xor
wrong_served true stuck want value = refl
wrong_served false false want value = refl
wrong_served false true true true = refl
wrong_served false true true false = refl
wrong_served false true false true = refl
wrong_served false true false false = refl

module _ (wanted mask values es : List ℕ) where
  -- the positions that get new entries
  fresh : List ℕ
  fresh = positions 512 (unserved wanted mask values es)

  length_fresh : length fresh ≡ needed wanted mask values es
  unfolding fresh needed
  length_fresh = length_positions (unserved wanted mask values es) 512

  pub length_after : length (after wanted mask values es) ≡ length es + needed wanted mask values es
  unfolding after fresh
  length_after = length-map (es ++ fresh) (renewed wanted) ∙ length-append es fresh ∙ ap (λ k. length es + k) length_fresh

  -- entry e of them
  get_or_after : (e : ℕ) → e < length es + needed wanted mask values es → get_or (after wanted mask values es) e 0 ≡ renewed wanted (get_or (es ++ fresh) e 0)
  unfolding after fresh
  get_or_after e h = get_or_renewed wanted (es ++ fresh) e (omega (arith, length-append es fresh, length_fresh))

  pub after_below : Below 1024 (after wanted mask values es)
  after_below =
      below_all (length es + needed wanted mask values es) 1024 (after wanted mask values es) (omega arith) length_after
      (λ e h. rw (get_or_after e h) (renewed_lt wanted (get_or (es ++ fresh) e 0)))

  pub after_replacement : (e : ℕ) → e < length es + needed wanted mask values es
      → replacement (get_or (after wanted mask values es) e 0) ≡ at wanted (pointer (get_or (after wanted mask values es) e 0))
  after_replacement e h =
      ap replacement (get_or_after e h) ∙ renewed_replacement wanted (get_or (es ++ fresh) e 0)
      ∙ ap (at wanted) (sym (ap pointer (get_or_after e h) ∙ renewed_pointer wanted (get_or (es ++ fresh) e 0)))

  -- the old ones keep their place and pointer
  pub after_old : (e : ℕ) → e < length es → pointer (get_or (after wanted mask values es) e 0) ≡ pointer (get_or es e 0)
  after_old e h = ap pointer (get_or_after e (omega arith)) ∙ renewed_pointer wanted (get_or (es ++ fresh) e 0) ∙ ap pointer (get_or-append es fresh 0 e h)

  -- the new ones name the unserved positions in rising order
  fresh_rising : Rising (unserved wanted mask values es) 512 fresh
  unfolding fresh
  fresh_rising = rising (unserved wanted mask values es) 512

  after_new : (e : ℕ) → length es ≤ e → e < length es + needed wanted mask values es → pointer (get_or (after wanted mask values es) e 0) ≡ get_or fresh (e - length es) 0
  after_new e k h =
      let q : e ≡ length es + (e - length es) = omega arith in
      ap pointer (get_or_after e h) ∙ renewed_pointer wanted (get_or (es ++ fresh) e 0) ∙ ap (λ x. pointer (get_or (es ++ fresh) x 0)) q
      ∙ ap pointer (get_or-append-add es fresh (e - length es) 0) ∙ mod-eq_of_lt (fresh_rising.bound (e - length es) (omega (arith, length_fresh)))

  pub after_serves : (e : ℕ) → length es ≤ e → e < length es + needed wanted mask values es → unserved wanted mask values es (pointer (get_or (after wanted mask values es) e 0)) ≡ true
  after_serves e k h = ap (unserved wanted mask values es) (after_new e k h) ∙ fresh_rising.passes (e - length es) (omega (arith, length_fresh))

  pub after_rises : (e f : ℕ) → length es ≤ e → e < f → f < length es + needed wanted mask values es
      → pointer (get_or (after wanted mask values es) e 0) < pointer (get_or (after wanted mask values es) f 0)
  after_rises e f k d h =
      let l = fresh_rising.rise (e - length es) (f - length es) (omega arith) (omega (arith, length_fresh)) in
      omega (arith, after_new e k (omega arith), after_new f (omega arith) h)

  unnamed : (p : ℕ) → unserved wanted mask values es p ≡ true → names es p ≡ false
  unfolding unserved
  unnamed p h = not-true (names es p) (and_right (at mask p && xor (at wanted p) (at values p)) (not (names es p)) h)

  pub after_differs : repeats es ≡ false → repeats (after wanted mask values es) ≡ false
  unfolding after
  after_differs d = repeats_renewed wanted (es ++ positions 512 (unserved wanted mask values es)) ∙ repeats_positions es (unserved wanted mask values es) 512 (omega arith) d unnamed

  named : (p : ℕ) → p < 512 → names (positions 512 (unserved wanted mask values es)) p ≡ at mask p && xor (at wanted p) (at values p) && not (names es p)
  unfolding unserved
  named p h = names_positions (unserved wanted mask values es) 512 p (omega arith) ∙ rw (lt-ltb p 512 h)

  pub after_shows : (p : ℕ) → p < 512 → shown (after wanted mask values es) p (stored wanted mask values p) ≡ at wanted p
  unfolding after stored
  after_shows p h =
      shown_renewed wanted (es ++ positions 512 (unserved wanted mask values es)) p (stored wanted mask values p)
      ∙ ap (λ t. cond t (at wanted p) (stored wanted mask values p)) (names_append es (positions 512 (unserved wanted mask values es)) p ∙ ap (λ t. names es p || t) (named p h))
      ∙ wrong_served (names es p) (at mask p) (at wanted p) (at values p)

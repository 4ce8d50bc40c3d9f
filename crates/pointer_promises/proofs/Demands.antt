-- What document 01 demands, proved of the definitions: an answer and buffers that are what the definitions say keep every promise. Assumes nothing.
use mathlib.Core.Path.{◌≡◌, refl, sym, ap, subst, ◌∙◌}
use mathlib.Core.Bool.{Bool, true, false, cond}
use mathlib.Core.List.{List}
use mathlib.Core.Logic.{◌≢◌}
use Prim.Native.Nat.{ℕ, ◌+◌, ◌≤◌, ◌<◌}
use native.Mathlib.Omega.{arith}
use native.Mathlib.Decide.{ℕ_discrete}
use lib.ListN.{length, get_or}
use Rattle.bits.specs.Bits.{at, bytes, Below}
use Rattle.bits.specs.First.{First}
use Rattle.bits.proofs.ByteLaws.{length_bytes, at_bytes, is_bytes}
use Rattle.pointer_promises.specs.Pointer.{pointer, replacement, entry, active, held, shown, after, active_after, stored, encode, read_number, needed, write_number}
use Rattle.pointer_promises.specs.Refusals.{Active, Unserved, read_refusals, write_refusals}
use Rattle.pointer_promises.specs.Promises.{Read, Write}
use Rattle.pointer_promises.specs.Theorems.{ReadExists, WriteExists, Fits}
use Rattle.pointer_promises.proofs.MetadataLaws.{length_held, get_or_held}
use Rattle.pointer_promises.proofs.FormedLaws.{active_said, formed_iff}
use Rattle.pointer_promises.proofs.ServedLaws.{shown_cell, shown_entry, unserved_iff}
use Rattle.pointer_promises.proofs.CodecLaws.{length_encode, entry_encode, active_encode, formed_encode, held_encode, verdict_encode}
use Rattle.pointer_promises.proofs.NumberLaws.{Passed, Accepted, read_ok, read_passed, full_exactly, write_zero}
use Rattle.pointer_promises.proofs.RefusalLaws.{read_first, write_first}
use Rattle.pointer_promises.proofs.WrittenLaws.{length_after, after_below, after_replacement, after_old, after_serves, after_rises, after_differs, after_shows}

-- ---- a read

read_number_lem : (n k : ℕ) (cells m out : List ℕ) → k ≡ read_number n (length cells) m (length out) → First (read_refusals n (length cells) m (length out)) k
read_number_lem n k cells m out e = subst (First _) (sym e) (read_first n (length cells) m (length out))

pub read_refused_lem : (n k : ℕ) (cells m out : List ℕ) → k ≡ read_number n (length cells) m (length out) → k ≢ 0 → Read n cells m out (record { number = k }) out
read_refused_lem n k cells m out e h = record { number = e; first = read_number_lem n k cells m out e; refused = λ _. refl; filled = λ z. absurd (h z); shows = λ z. absurd (h z); replaces = λ z. absurd (h z) }

pub read_accepted : (n : ℕ) (cells m out out' : List ℕ) → 0 ≡ read_number n (length cells) m (length out) → out' ≡ bytes 64 (λ p. shown (held n m) p (at cells p))
    → Read n cells m out (record { number = 0 }) out'
read_accepted n cells m out out' e h =
    let p : Passed n m = read_passed n (length cells) m (length out) (sym e) in
    let at_out : (q : ℕ) → q < 512 → at out' q ≡ shown (held n m) q (at cells q) = λ q l. ap (λ bs. at bs q) h ∙ at_bytes 64 (λ p. shown (held n m) p (at cells p)) q l in
    record {
      number = e;
      first = read_number_lem n 0 cells m out e;
      refused = λ z. absurd (z refl);
      filled = λ _. h;
      shows = λ _ a q s l u. at_out q l ∙ shown_cell n m p.range p.forms a q (at cells q) s l u;
      replaces = λ _ a f q s l k u. at_out q k ∙ shown_entry n m p.range p.forms a f q (at cells q) p.differs s l k u;
    }

pub read_exists : ReadExists
read_exists n cells m out = elim (ℕ_discrete (read_number n (length cells) m (length out)) 0) [
  | yes z ↦ (_, _, read_accepted n cells m out _ (sym z) refl)
  | no z ↦ (_, _, read_refused_lem n _ cells m out refl z)
]

-- ---- a write

module _ (n : ℕ) (wanted mask values cells m : List ℕ) where
  write_number_lem : (k : ℕ) → k ≡ write_number n wanted mask values (length cells) m → First (write_refusals n wanted mask values (length cells) m) k
  write_number_lem k e = subst (First _) (sym e) (write_first n wanted mask values (length cells) m)

  pub write_refused : (k : ℕ) → k ≡ write_number n wanted mask values (length cells) m → k ≢ 0
      → Write n wanted mask values cells m (record { number = k; active = 0; new = 0 }) cells m
  write_refused k e h = record {
    number = e;
    first = write_number_lem k e;
    refused = λ _. (refl, refl, refl, refl);
    stores = λ z. absurd (h z);
    encodes = λ z. absurd (h z);
    counts = λ z. absurd (h z);
    full = full_exactly n wanted mask values (length cells) m k (write_number_lem k e);
    sound = λ z. absurd (h z);
    stuck = λ z. absurd (h z);
    counted = λ z. absurd (h z);
    noted = λ z. absurd (h z);
    kept = λ z. absurd (h z);
    adds = λ z. absurd (h z);
    renews = λ z. absurd (h z);
    serves = λ z. absurd (h z);
    rises = λ z. absurd (h z);
    reads = λ z. absurd (h z);
  }

  module _ (accepted : Accepted n wanted mask values (length cells) m) where
    es : List ℕ
    es = held n m

    row : List ℕ
    unfolding es
    row = after wanted mask values es

    length_row : length row ≡ active n m + needed wanted mask values (held n m)
    unfolding row es
    length_row = length_after wanted mask values es ∙ ap (λ a. a + needed wanted mask values es) (length_held n m)

    adds : active_after n wanted mask values m ≡ active n m + needed wanted mask values (held n m)
    unfolding active_after row es
    adds = length_row

    fits : Fits n row
    unfolding row
    fits = record {
      range = accepted.judged.range;
      few = omega (arith, length_row, accepted.few);
      small = after_below wanted mask values es;
    }

    exit : List ℕ
    unfolding row
    exit = encode n row

    row_entry : (e : ℕ) → e < active n m + needed wanted mask values (held n m) → entry exit e ≡ get_or row e 0
    unfolding exit
    row_entry e h = entry_encode n row fits e (omega (arith, length_row))

    counted : active n exit ≡ active n m + needed wanted mask values (held n m)
    unfolding exit
    counted = active_encode n row fits ∙ length_row

    noted : Active n exit (active_after n wanted mask values m)
    unfolding exit
    noted = subst (Active n exit) (counted ∙ sym adds) (active_said n exit accepted.judged.range ((formed_iff n exit accepted.judged.range).0 (formed_encode n row fits)))

    kept : (e : ℕ) → e < active n m → pointer (entry exit e) ≡ pointer (entry m e)
    unfolding row es
    kept e h =
        ap pointer (row_entry e (omega arith)) ∙ after_old wanted mask values es e (rw length_held h) ∙ ap pointer (get_or_held n m e h)

    renews : (e : ℕ) → e < active n m + needed wanted mask values (held n m) → replacement (entry exit e) ≡ at wanted (pointer (entry exit e))
    unfolding row es
    renews e h = rw (row_entry e h) (after_replacement wanted mask values es e (rw length_held h))

    serves : (e : ℕ) → active n m ≤ e → e < active n m + needed wanted mask values (held n m) → Unserved wanted mask values m (active n m) (pointer (entry exit e))
    unfolding row es
    serves e k h =
        (unserved_iff n m accepted.judged.range accepted.judged.forms wanted mask values (pointer (entry exit e)) (omega arith)).0
        (rw (row_entry e h) (after_serves wanted mask values es e (rw length_held k) (rw length_held h)))

    rises : (e f : ℕ) → active n m ≤ e → e < f → f < active n m + needed wanted mask values (held n m) → pointer (entry exit e) < pointer (entry exit f)
    unfolding row es
    rises e f k d h = rw (row_entry e (omega arith), row_entry f h) (after_rises wanted mask values es e f (rw length_held k) d (rw length_held h))

    -- a sound cell takes its wanted bit, a stuck one holds its stuck value
    held_at : (t : Bool) (p : ℕ) → p < 512 → at mask p ≡ t → at (bytes 64 (stored wanted mask values)) p ≡ cond t (at values p) (at wanted p)
    unfolding stored
    held_at t p l h = at_bytes 64 (stored wanted mask values) p l ∙ ap (λ b. cond b (at values p) (at wanted p)) h

    reads : Below 256 wanted → (out : List ℕ) → length out ≡ 64 → Read n (bytes 64 (stored wanted mask values)) exit out (record { number = 0 }) wanted
    unfolding exit row es
    reads b out l =
        read_accepted n (bytes 64 (stored wanted mask values)) (encode n row) out wanted
        (sym
        (read_ok n (length (bytes 64 (stored wanted mask values))) (encode n row) (length out) accepted.judged.range.0 accepted.judged.range.1
        (length_bytes 64 (stored wanted mask values)) (length_encode n row) l
        ∙ verdict_encode n row fits (after_differs wanted mask values es accepted.judged.differs)))
        (is_bytes 64 (λ p. shown (held n (encode n row)) p (at (bytes 64 (stored wanted mask values)) p)) wanted accepted.long b
        (λ p h. sym (rw (held_encode n row fits, at_bytes 64 (stored wanted mask values) p h) (after_shows wanted mask values es p h))))

    exact : 0 ≡ write_number n wanted mask values (length cells) m → Below 256 wanted
        → Write n wanted mask values cells m (record { number = 0; active = active_after n wanted mask values m; new = needed wanted mask values (held n m) })
        (bytes 64 (stored wanted mask values)) (encode n (after wanted mask values (held n m)))
    unfolding exit row es
    exact e b = record {
      number = e;
      first = write_number_lem 0 e;
      refused = λ z. absurd (z refl);
      stores = λ _. refl;
      encodes = λ _. refl;
      counts = λ _. (refl, refl);
      full = full_exactly n wanted mask values (length cells) m 0 (write_number_lem 0 e);
      sound = λ _. held_at false;
      stuck = λ _. held_at true;
      counted = λ _. active_said n m accepted.judged.range accepted.judged.forms;
      noted = λ _. noted;
      adds = λ _. adds;
      kept = λ _. kept;
      renews = λ _ e h. renews e (subst (λ x. e < x) adds h);
      serves = λ _ e k h. serves e k (subst (λ x. e < x) adds h);
      rises = λ _ e f k d h. rises e f k d (subst (λ x. f < x) adds h);
      reads = λ _. reads b;
    }

  pub write_accepted : (a k : ℕ) (cells' m' : List ℕ) → 0 ≡ write_number n wanted mask values (length cells) m → Below 256 wanted → a ≡ active_after n wanted mask values m
      → k ≡ needed wanted mask values (held n m) → cells' ≡ bytes 64 (stored wanted mask values) → m' ≡ encode n (after wanted mask values (held n m))
      → Write n wanted mask values cells m (record { number = 0; active = a; new = k }) cells' m'
  write_accepted a k cells' m' e b ha hk hc hm = rw (hc, hm, ha, hk) (exact (write_zero n wanted mask values (length cells) m (sym e)) e b)

pub write_exists : WriteExists
write_exists n wanted mask values cells m b = elim (ℕ_discrete (write_number n wanted mask values (length cells) m) 0) [
  | yes z ↦ (_, _, _, write_accepted n wanted mask values cells m _ _ _ _ (sym z) b refl refl refl refl)
  | no z ↦ (_, _, _, write_refused n wanted mask values cells m _ refl z)
]

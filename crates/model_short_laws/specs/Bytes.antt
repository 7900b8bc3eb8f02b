-- Entries as bytes: what is written is what is read.
use Rattle.std.specs.Prelude.{◌+◌, ◌*◌, ◌-◌, ◌≤◌, ◌<◌, ◌≡◌, ◌∷◌, ◌++◌}
use Rattle.std.proofs.Math.Seq.{get_or-append_seam, drop-append_seam}
use Rattle.std.proofs.Common.{get_or-append-add}
use Rattle.base.specs.Prelude.{ℕ, suc, zero, refl, sym, ap, ◌∙◌, List, [], append_assoc, length}
use Rattle.base.specs.Prelude.{length-append, arith, Bool, true, leb, leb-true, inl, inr}
use Rattle.base.specs.Bools.{and_left, and_right, and_both}
use Rattle.model.specs.Sound.{every}
use Rattle.model.specs.Bytes.{word32}
use Rattle.model_laws.specs.ByteLaws.{word32_first, word32_drop}
use Rattle.model_short.specs.declared.RawEntry.{RawEntry}
use Rattle.model_short.specs.Short.{choices, among, legal}
use Rattle.model_short.specs.Calls.{raw_bytes, list_bytes, raw_at, raws_at, given_list}
use Rattle.model_short_laws.specs.Entries.{every_among}
use Rattle.model_short_laws.specs.Order.{OneOrTwo}

pub length_raws_at : (b : List ℕ) (i k : ℕ) → length (raws_at b i k) ≡ k
unfolding raws_at
length_raws_at b i zero = refl
length_raws_at b i (suc k) = ap suc (length_raws_at b (i + 6) k)

pub length_list_bytes : (l : List RawEntry) → length (list_bytes l) ≡ 6 * length l
unfolding list_bytes
length_list_bytes [] = refl
length_list_bytes (e ∷ l) = omega (arith, length_list_bytes l)

pub raws_at_zero : (b : List ℕ) (i k : ℕ) → k ≡ 0 → raws_at b i k ≡ []
unfolding raws_at
raws_at_zero b i k h = rw h refl

pub raws_at_more : (b : List ℕ) (i k : ℕ) → 1 ≤ k → raws_at b i k ≡ raw_at b i ∷ raws_at b (i + 6) (k - 1)
unfolding raws_at
raws_at_more b i zero h = absurd (omega arith)
raws_at_more b i (suc k) h = let e : suc k - 1 ≡ k = omega arith in rw e refl

-- ---- written and read

-- The value fits 32 bits.
abbrev small : RawEntry → Bool
small e = leb e.value 4294967295

raw_at_written : (front rest : List ℕ) (e : RawEntry) → e.value < 4294967296 → raw_at (front ++ (raw_bytes e ++ rest)) (length front) ≡ e
unfolding raw_at
raw_at_written front rest e low =
    let s : List ℕ = front ++ (raw_bytes e ++ rest) in
    let v : word32 s (length front + 2) ≡ e.value
    = sym (word32_drop (length front) s 2) ∙ rw (drop-append_seam front (raw_bytes e ++ rest)) (word32_first e.value rest low) in
    rw (get_or-append_seam front e.kind _ 0, get_or-append-add front (raw_bytes e ++ rest) 1 0, v) refl

raws_at_written : (front : List ℕ) (l : List RawEntry) → every small l ≡ true → raws_at (front ++ list_bytes l) (length front) (length l) ≡ l
unfolding raws_at list_bytes
raws_at_written front [] h = refl
raws_at_written front (e ∷ l) h =
    let all : front ++ (raw_bytes e ++ list_bytes l) ≡ (front ++ raw_bytes e) ++ list_bytes l
    = sym (append_assoc front (raw_bytes e) (list_bytes l)) in
    let size : length front + 6 ≡ length (front ++ raw_bytes e) = sym (length-append front (raw_bytes e)) in
    let low : e.value < 4294967296 = omega (arith, leb-true e.value 4294967295 (and_left (small e) _ h)) in
    let first : raw_at (front ++ (raw_bytes e ++ list_bytes l)) (length front) ≡ e = raw_at_written front (list_bytes l) e low in
    let others : raws_at (front ++ (raw_bytes e ++ list_bytes l)) (length front + 6) (length l) ≡ l
    = ap (λ (i : ℕ). raws_at (front ++ (raw_bytes e ++ list_bytes l)) i (length l)) size
    ∙ (ap (λ (t : List ℕ). raws_at t (length (front ++ raw_bytes e)) (length l)) all
    ∙ raws_at_written (front ++ raw_bytes e) l (and_right (small e) _ h)) in
    ap (λ (t : RawEntry). t ∷ raws_at (front ++ (raw_bytes e ++ list_bytes l)) (length front + 6) (length l)) first
    ∙ ap (λ (t : List RawEntry). e ∷ t) others

choices_small : (n : ℕ) → OneOrTwo n → every small (choices n) ≡ true
unfolding choices
choices_small n (inl e) = rw e refl
choices_small n (inr e) = rw e refl

among_small : (n : ℕ) → OneOrTwo n → (l : List RawEntry) → every (among (choices n)) l ≡ true → every small l ≡ true
among_small n h [] q = refl
among_small n h (e ∷ l) q =
    and_both (every_among small (choices n) (choices_small n h) e (and_left (among (choices n) e) _ q))
    (among_small n h l (and_right (among (choices n) e) _ q))

-- A legal list that was written stands in the buffer.
pub given_written : (n : ℕ) → OneOrTwo n → (l : List RawEntry) → legal n l ≡ true → given_list (length l) (list_bytes l) ≡ l
unfolding legal
given_written n h l ok = raws_at_written [] l (among_small n h l (and_left (every (among (choices n)) l) _ ok))

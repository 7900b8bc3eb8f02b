-- Numbers in bytes: what was written is what is read.
use Rattle.std.specs.Prelude.{◌+◌, ◌*◌, ◌/◌, ◌%◌, ◌≤◌, ◌<◌, ◌≡◌, ◌∷◌, ◌++◌}
use Rattle.std.proofs.Common.{get_or-drop}
use Rattle.base.specs.Prelude.{ℕ, zero, suc, arith, refl, sym, ◌∙◌, ap, List, [], length}
use Rattle.base.specs.Prelude.{get_or, drop}
use Rattle.base.specs.Prelude.{add-zero, add_assoc, add-one, add-two, div-div-eq-div-mul, mod-eq_of_lt, drop-cons, drop-drop}
use Rattle.model.specs.declared.Process.{Process}
use Rattle.model.specs.Board.{idle}
use Rattle.model.specs.Bytes.{byte_at, word16, word32, bytes16, bytes32}
use Rattle.model.specs.Export.{decided_value, decided_bytes}

-- The elements of a list are bytes.
abbrev pub AreBytes : List ℕ → Type 0
AreBytes s = (i : ℕ) → byte_at s i < 256

-- ---- 16 bits

-- The two bytes of a number are its lowest 16 bits.
low16 : (v : ℕ) → v % 256 + 256 * (v / 256 % 256) ≡ v % 65536
low16 v = omega arith

-- The bytes of a number stand at place i: it is the number there, and the rest stands behind it.
module _ (s rest : List ℕ) (i v : ℕ) (e : drop i s ≡ bytes16 v ++ rest) where
  pub word16_at : v < 65536 → word16 s i ≡ v
  word16_at low = omega (arith, low16 v, rw (e, add-zero) at (get_or-drop i s 0 0), rw e at (get_or-drop i s 1 0))

  pub drop_bytes16 : drop (i + 2) s ≡ rest
  drop_bytes16 = sym (drop-drop 2 i s) ∙ ap (drop 2) e

-- The number at place i, written again, is the two bytes that stand there.
pub drop_word16 : (s : List ℕ) (i : ℕ) → AreBytes s → i + 2 ≤ length s → drop i s ≡ bytes16 (word16 s i) ++ drop (i + 2) s
drop_word16 s i low h =
    let a : word16 s i % 256 ≡ byte_at s i = omega (arith, low i) in
    let b : word16 s i / 256 ≡ byte_at s (i + 1) = omega (arith, low i) in
    let first : i < length s = omega arith in
    let second : suc i < length s = omega arith in
    rw (a, b, mod-eq_of_lt (low (i + 1)), add-two, add-one, drop-cons s i 0, drop-cons s (suc i) 0)

-- ---- 32 bits

-- A number of 32 bits.
pub word32_low : (s : List ℕ) (i : ℕ) → AreBytes s → word32 s i < 4294967296
word32_low s i low = omega (arith, low i, low (i + 1), low (i + 2), low (i + 2 + 1))

-- The number at the start, by its two halves.
pub word32_first : (v : ℕ) (xs : List ℕ) → v < 4294967296 → word32 (bytes32 v ++ xs) 0 ≡ v
word32_first v xs low =
    let third : v / 65536 / 256 ≡ v / 16777216 = div-div-eq-div-mul v 65536 256 in
    omega (arith, low16 v, rw third at (low16 (v / 65536)))

-- The number at place i behind the first n bytes.
pub word32_drop : (n : ℕ) (s : List ℕ) (i : ℕ) → word32 (drop n s) i ≡ word32 s (n + i)
word32_drop n s i = simp (get_or-drop, add_assoc)

-- ---- the buffer of the C entry

-- The decided value that stands in the bytes of process p.
abbrev pub decided_at : List Process → (p : ℕ) → ℕ
decided_at qs p = decided_value (get_or qs p idle).phase (get_or qs p idle).estimate

-- 01: "bytes 4s to 4s + 3 hold seat s's decided value", and past the last process 0 is read.
pub decided_word : (qs : List Process) (p : ℕ) → ((q : ℕ) → decided_at qs q < 4294967296) → word32 (decided_bytes qs) (4 * p) ≡ decided_at qs p
decided_word [] p low = refl
decided_word (q ∷ qs) zero low = word32_first _ (decided_bytes qs) (low 0)
decided_word (q ∷ qs) (suc p) low =
    let next : 4 * suc p ≡ 4 + 4 * p = omega arith in
    rw next (sym (word32_drop 4 (decided_bytes (q ∷ qs)) (4 * p)) ∙ decided_word qs p (λ o. low (suc o)))

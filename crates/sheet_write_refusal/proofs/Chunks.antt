-- The entries of a buffer, read six bytes at a time: an entry is malformed by its own six bytes.
use Rattle.std.specs.Prelude.{◌+◌, ◌<◌, ◌≡◌, ◌&&◌, ◌∷◌}
use Rattle.std.specs.Simd.{first_chunks}
use Rattle.std.proofs.lemmas.List.{get_or-take, get_or-drop, drop-drop}
use Rattle.base.specs.Prelude.{ℕ, zero, suc, add-one, arith, refl, ap, ◌∙◌, not, Bool, List, [], length, take, drop, drop-cons, get_or}
use Rattle.model.specs.Bytes.{byte_at, word32}
use Rattle.model.specs.Sheet.{entry_of, entry_at, entries_at, is_malformed}
use Rattle.model.specs.Sound.{every}
use Rattle.model_write.specs.Write.{well_formed}

-- Whether six bytes are a well-formed entry.
abbrev pub chunk_formed : List ℕ → Bool
chunk_formed x =
    not (is_malformed (entry_of (byte_at x 0) (byte_at x 1) (word32 (byte_at x 2 ∷ byte_at x 3 ∷ byte_at x 4 ∷ byte_at x 5 ∷ []) 0)))

byte_of : (s : List ℕ) (i j : ℕ) → j < 6 → byte_at (take 6 (drop i s)) j ≡ byte_at s (i + j)
byte_of s i j h = get_or-take 6 (drop i s) j 0 h ∙ get_or-drop i s j 0

read : (s : List ℕ) (i : ℕ) → chunk_formed (take 6 (drop i s)) ≡ not (is_malformed (entry_at s i))
read s i =
    let e2 : i + 2 + 1 ≡ i + 3 = omega arith in
    let e4 : i + 2 + 2 ≡ i + 4 = omega arith in
    let e5 : i + 2 + 2 + 1 ≡ i + 5 = omega arith in
    let e0 : i + 0 ≡ i = omega arith in
    rw (byte_of s i 0 (omega arith), byte_of s i 1 (omega arith), byte_of s i 2 (omega arith), byte_of s i 3 (omega arith), byte_of s i 4 (omega arith), byte_of s i 5 (omega arith), e5, e4, e2, e0) refl

pub chunks_formed : (k : ℕ) (s : List ℕ) (i : ℕ) → well_formed (entries_at s i k) ≡ every chunk_formed (first_chunks 6 k (drop i s))
chunks_formed zero s i = refl
chunks_formed (suc k) s i = rw (read s i, chunks_formed k s (i + 6), drop-drop 6 i s) refl

-- By the chunk at i and those behind it.
pub formed_from : (xs : List (List ℕ)) (i : ℕ) → i < length xs →
    every chunk_formed (drop i xs) ≡ (chunk_formed (get_or xs i []) && every chunk_formed (drop (i + 1) xs))
formed_from xs i h = rw add-one (ap (every chunk_formed) (drop-cons xs i [] h))

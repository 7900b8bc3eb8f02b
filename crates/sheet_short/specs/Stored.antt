-- Entries stored in a buffer.
use Rattle.std.specs.Prelude.{◌+◌, ◌≤◌, ◌<◌, ◌≡◌, ◌∷◌}
use Rattle.std.proofs.lemmas.List.{set_comm}
use Rattle.base.specs.Prelude.{ℕ, suc, refl, sym, ap, ◌∙◌, List, [], length, set, sets, arith}
use Rattle.base.specs.Arrays.{sets_append}
use Rattle.model_short.specs.declared.RawEntry.{RawEntry}
use Rattle.model_short.specs.Calls.{raw_bytes, list_bytes}

-- A list stored behind one that is stored later.
set_sets : (b : List ℕ) (i j x : ℕ) (ws : List ℕ) → i < j → set (sets b j ws) i x ≡ sets (set b i x) j ws
set_sets b i j x [] h = refl
set_sets b i j x (w ∷ ws) h =
    set_sets (set b j w) i (suc j) x ws (omega arith) ∙ ap (λ (l : List ℕ). sets l (suc j) ws) (set_comm b j i w x (λ e. omega arith))

pub sets_sets : (b : List ℕ) (i j : ℕ) (vs ws : List ℕ) → i + length vs ≤ j → sets (sets b j ws) i vs ≡ sets (sets b i vs) j ws
sets_sets b i j [] ws h = refl
sets_sets b i j (v ∷ vs) ws h =
    ap (λ (l : List ℕ). sets l (suc i) vs) (set_sets b i j v ws (omega arith)) ∙ sets_sets (set b i v) (suc i) j vs ws (omega arith)

-- The rest of a list stored, and then its first entry.
pub entry_first : (b : List ℕ) (i : ℕ) (e : RawEntry) (es : List RawEntry)
    → sets (sets b (i + 6) (list_bytes es)) i (raw_bytes e) ≡ sets b i (list_bytes (e ∷ es))
unfolding list_bytes
entry_first b i e es =
    sets_sets b i (i + 6) (raw_bytes e) (list_bytes es) (omega arith) ∙ sym (sets_append b i (raw_bytes e) (list_bytes es))

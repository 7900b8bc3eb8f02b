-- Document 01, "Turn sheets": "Kinds: 0 propose (any value), 1 work (value 0 is hint no, 1 is yes), 2 look (0), 3 crash (0)", as the
-- largest value of each; and 02, wish 10: "kind 4, seat 0, value 0".
use Rattle.std.specs.Prelude.{◌<◌, ◌≤◌, ◌≡◌, ◌&&◌, ◌∷◌}
use Rattle.base.specs.Prelude.{ℕ, zero, suc, arith, refl, Bool, true, false, cond, not, List, [], get_or, leb, le-leb}
use Rattle.base.specs.Prelude.{lt-leb, eqb, ne_eqb}
use Rattle.model.specs.declared.Operation.TheVariants.{Step}
use Rattle.model.specs.declared.Entry.TheVariants.{Acts, Closes, Malformed}
use Rattle.model.specs.Sheet.{entry_of, is_malformed}

abbrev pub largest : List ℕ
largest = 4294967295 ∷ 1 ∷ 0 ∷ 0 ∷ []

-- A work turn: the hint is yes where the value is not 0.
pub hinted : (kind p v : ℕ) → kind ≡ 1 → v ≤ 1 → entry_of kind p v ≡ Acts (Step p (not (eqb v 0)))
hinted kind p zero e low = rw e
hinted kind p (suc zero) e low = rw e
hinted kind p (suc (suc v)) e low = absurd (omega arith)

pub unhinted : (kind p v : ℕ) → kind ≡ 1 → 1 < v → entry_of kind p v ≡ Malformed
unhinted kind p v e high = rw (e, ne_eqb v 0 (λ z. omega arith), ne_eqb v 1 (λ z. omega arith))

-- An entry of an operation's kind is well-formed exactly if its value is at most the kind's largest, whatever its process.
pub formed_largest : (kind p v : ℕ) → kind < 4 → v < 4294967296 → leb v (get_or largest kind 0) ≡ not (is_malformed (entry_of kind p v))
formed_largest zero p v known low = le-leb v 4294967295 (omega arith)
formed_largest (suc zero) p zero known low = refl
formed_largest (suc zero) p (suc zero) known low = refl
formed_largest (suc zero) p (suc (suc v)) known low =
    rw (lt-leb (suc (suc v)) 1 (omega arith), ne_eqb (suc (suc v)) 0 (λ e. omega arith), ne_eqb (suc (suc v)) 1 (λ e. omega arith))
formed_largest (suc (suc zero)) p zero known low = refl
formed_largest (suc (suc zero)) p (suc v) known low = rw (lt-leb (suc v) 0 (omega arith), ne_eqb (suc v) 0 (λ e. omega arith))
formed_largest (suc (suc (suc zero))) p zero known low = refl
formed_largest (suc (suc (suc zero))) p (suc v) known low = rw (lt-leb (suc v) 0 (omega arith), ne_eqb (suc v) 0 (λ e. omega arith))
formed_largest (suc (suc (suc (suc k)))) p v known low = absurd (omega arith)

-- One of another kind exactly if it is a close: kind 4, process 0, value 0.
pub formed_close : (kind p v : ℕ) → (kind < 4 → ⊥) → (eqb kind 4 && (eqb p 0 && eqb v 0)) ≡ not (is_malformed (entry_of kind p v))
formed_close kind p v other =
    rw (
      ne_eqb kind 0 (λ e. omega arith),
      ne_eqb kind 1 (λ e. omega arith),
      ne_eqb kind 2 (λ e. omega arith),
      ne_eqb kind 3 (λ e. omega arith),
    )
    (chosen (eqb kind 4) (eqb p 0 && eqb v 0))
  where
    chosen : (a b : Bool) → (a && b) ≡ not (is_malformed (cond a (cond b Closes Malformed) Malformed))
    chosen true true = refl
    chosen true false = refl
    chosen false b = refl

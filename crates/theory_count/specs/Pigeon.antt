-- Pigeonholes: where each pigeon has a hole of its own and one hole is left, there are more holes than pigeons.
use Rattle.std.specs.Prelude.{◌+◌, ◌-◌, ◌≤◌, ◌<◌, ◌≡◌}
use Rattle.base.specs.Prelude.{ℕ, suc, zero, pred, min, max, arith}

-- The numbers other than k, moved together: those above k are lowered by one.
abbrev without : (k x : ℕ) → ℕ
without k x = max (min x k) (pred x)

-- The number other than k that was moved to y.
abbrev restored : (k y : ℕ) → ℕ
restored k y = y + min 1 (suc y - k)

-- A number other than k is found again.
restored_without : (k x : ℕ) → (x ≡ k → ⊥) → restored k (without k x) ≡ x
restored_without k x d = omega arith

-- A hole to spare: where each of m numbers has a hole below n of its own, and none has the hole q, there are more holes than m.
pub spare_hole :
    (n m q : ℕ) (In : ℕ → ℕ → Type 0) →
    q < n →
    ((t : ℕ) → t < m → (p : ℕ) × (p < n) × In t p) →
    ((t u p : ℕ) → In t p → In u p → t ≡ u) →
    ((t : ℕ) → In t q → ⊥) →
    m < n
spare_hole n zero q In low place once never = omega arith
spare_hole n (suc m) q In low place once never =
    let last = place m (omega arith) in
    let k = last.0 in
    let apart : q ≡ k → ⊥ = λ e. never m (rw (← e) at last.2) in
    let fewer : m < pred n =
    spare_hole (pred n) m (without k q) (λ t y. In t (restored k y)) (omega arith)
    (λ t l.
    let hole = place t (omega arith) in
    let other : hole.0 ≡ k → ⊥ = λ e. omega (arith, once t m k (rw e at hole.2) last.2) in
    (without k hole.0, omega arith, rw (restored_without k hole.0 other) hole.2))
    (λ t u y. once t u (restored k y))
    (λ t a. never t (rw (restored_without k q apart) at a)) in
    omega arith

-- As many holes as numbers, at least: where each of m numbers has a hole below n of its own.
pub holes : (n m : ℕ) (In : ℕ → ℕ → Type 0) → ((t : ℕ) → t < m → (p : ℕ) × (p < n) × In t p) → ((t u p : ℕ) → In t p → In u p → t ≡ u) →
    m ≤ n
holes n zero In place once = omega arith
holes n (suc m) In place once =
    let last = place m (omega arith) in
    spare_hole n m last.0 (λ t p. (t < m) × In t p) last.1
    (λ t l. let hole = place t (omega arith) in (hole.0, hole.1, (l, hole.2)))
    (λ t u p a b. once t u p a.1 b.1)
    (λ t a. omega (arith, a.0, once t m last.0 a.1 last.2))

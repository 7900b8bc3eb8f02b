-- Laws of counts that are full, and of those that are not. Assumes nothing.
use Rattle.std.specs.Prelude.{◌<◌, ◌≤◌, ◌≡◌, ◌||◌}
use Rattle.std.proofs.lemmas.Bool.Decides.{nat_tests}
use Rattle.base.specs.Prelude.{ℕ, refl, Bool, true, false, cond, true≢false, arith, eqb, leb, leb-false}
use Rattle.model.specs.declared.Access.{Access}
use Rattle.model.specs.declared.Counts.{Counts}
use Rattle.model.specs.Step.{counted}
use Rattle.model.specs.Refusal.{full, max_count}

-- A count is at most the largest one, so to be it is to be at least it.
pub largest : (x : ℕ) → x ≤ max_count → eqb x max_count ≡ leb max_count x
largest x h = grind (arith, nat_tests)

neither : (a b : Bool) → (a || b) ≡ false → (a ≡ false) × (b ≡ false)
neither true b h = absurd (true≢false h)
neither false b h = (refl, h)

-- Counts that are not full have room for one more.
pub room :
    (c : Counts) →
    full c ≡ false →
    (c.reads < max_count) × (c.writes < max_count) × (c.contested < max_count)
unfolding full
room c h =
    let two = neither _ _ h in
    let one = neither _ _ two.0 in
    (leb-false _ _ one.0, leb-false _ _ one.1, leb-false _ _ two.1)

-- What counts that are not full become, by the case of the access.
pub counts_one :
    (a : Access) (x : ℕ) (c : Counts) {α : Access} {d : Counts} →
    full c ≡ false →
    a ≡ α →
    d ≡ counted α x c →
    d ≡ cond (full c) c (counted a x c)
counts_one a x c unfull told e = rw (unfull, told) e

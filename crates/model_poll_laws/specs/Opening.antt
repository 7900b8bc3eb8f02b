-- The opening of a poll: 1 alone refuses it, and what it opens is a poll.
use Rattle.std.specs.Prelude.{◌≤◌, ◌≡◌, ◌⊎◌, ◌&&◌}
use Rattle.base.specs.Prelude.{ℕ, arith, refl, inl, inr, Bool, true, false, leb, leb-true, eq-eqb}
use Rattle.base.specs.Bools.{and_left, and_right, and_both}
use Rattle.model.specs.Window.{window}
use Rattle.model_laws.specs.Types.{Caller, Server, Cart, Limits}
use Rattle.model.specs.Board.{limits_of, UpToServer, opened, max_processes, max_rounds}
use Rattle.model.specs.Numbers.{bad_process_count}
use Rattle.model.specs.Machine.{opening_for}
use Rattle.model.specs.Sound.{poll_registers, sound_for_as}
use Rattle.model_laws.specs.Windows.{window_low}
use Rattle.model_laws.specs.Callers.{opening_held}
use Rattle.model_laws.specs.Operations.{opening_accepts}
use Rattle.model_laws.specs.Every.{every_replicate, every_drop}
use Rattle.model_laws.specs.Sounds.{facts_sound, idle_sound}
use Rattle.model_poll.specs.Machine.{poll_opening_for, poll_opening}

-- The window of as many processes as a caller may have is within its rounds.
window_held : (caller : Caller) (n : ℕ) → n ≤ (limits_of caller).processes → window n ≤ (limits_of caller).rounds
window_held Server n few = omega (arith, window_low n)
window_held Cart n few = omega (arith, window_low n)

-- "(Numbers 1, ..": no other. (L is W, and W is within the caller's rounds where n is within its processes.)
pub poll_opening_code : (caller : Caller) (n : ℕ) → ((poll_opening caller n).code ≡ 0) ⊎ ((poll_opening caller n).code ≡ bad_process_count)
unfolding poll_opening_for opening_for
poll_opening_code caller n = go (leb 1 n && leb n (limits_of caller).processes) refl
  where
    go : (b : Bool) → (leb 1 n && leb n (limits_of caller).processes) ≡ b →
        ((poll_opening caller n).code ≡ 0) ⊎ ((poll_opening caller n).code ≡ bad_process_count)
    go true t =
        let some = leb-true 1 n (and_left (leb 1 n) _ t) in
        let few = leb-true n (limits_of caller).processes (and_right (leb 1 n) _ t) in
        inl (opening_accepts (limits_of caller) (window n) n (window n) some few (omega arith) (window_held caller n few)).0
    go false t = inr (rw t refl)

-- What an accepted opening at any window, within limits up to the server's, knows, and what it opens.
pub poll_opened : (most : Limits) → UpToServer most → (W n : ℕ) → (poll_opening_for most W n).code ≡ 0 →
    (1 ≤ n) × (n ≤ max_processes) × (W ≤ max_rounds) × ((poll_opening_for most W n).session ≡ opened n W)
unfolding poll_opening_for
poll_opened most up W n ok = let a = opening_held most up W n W ok in (a.0, a.1, a.3, a.4)

-- A poll just opened is sound, at any window that fits.
pub opened_poll_sound : (W n : ℕ) → 1 ≤ n → n ≤ max_processes → W ≤ max_rounds → sound_for_as true W (opened n W) ≡ true
unfolding opened poll_registers
opened_poll_sound W n some few low =
    facts_sound true W _
    (let fits = and_both (eq-eqb W W refl) (eq-eqb 0 0 refl) in
    let wide : W ≤ W = omega arith in
    search (every_drop, every_replicate, idle_sound))

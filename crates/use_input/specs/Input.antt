-- What is known of the bytes that were read, and the law by which a program's proof uses it. Assumes nothing.
use Rattle.std.specs.Prelude.{ℕ, ◌≡◌, ◌≤◌, List, length, take, Result, Ok, Err}
use Rattle.std.proofs.Common.{subst}
use Rattle.use_input.specs.declared.ReadFailed.{ReadFailed}

-- The first n of the list lie in it, and are n. (Of the library `io`, which said the same by this name.)
abbrev pub IsPrefixLen : ℕ → List ℕ → Type 0
IsPrefixLen n xs = (n ≤ length xs) × (n ≡ length (take n xs))

-- The bytes that were read are the first of the buffer. (That they are those of the input no contract can say.)
abbrev pub InputHeld : Result ℕ ReadFailed → List ℕ → Type 0
InputHeld (Ok n) buffer = IsPrefixLen n buffer
InputHeld (Err _) buffer = Unit

pub held_bytes : (r : Result ℕ ReadFailed) (n : ℕ) (buffer : List ℕ) → r ≡ Ok n → InputHeld r buffer → IsPrefixLen n buffer
held_bytes r n buffer = subst (λ r. InputHeld r buffer)

-- Which of the two callers (document 02, wish 9) a byte names: 0 the server, any other the cart.
use Rattle.std.specs.Prelude.{ℕ, cond, eqb}
use Rattle.model.specs.declared.Caller.{Caller}
use Rattle.model.specs.declared.Caller.TheVariants.{Server, Cart}

abbrev pub caller_of : (byte : ℕ) → Caller
caller_of b = cond (eqb b 0) Server Cart

-- How a search for a list begins, and how it goes on behind an entry.
use Rattle.std.specs.Prelude.{ℕ, suc, ◌+◌, ◌≡◌, ◌≢◌, ◌≤◌, Option, Some, None}
use Rattle.model.specs.Window.{window}
use Rattle.model.specs.Board.{opened, no_counts}
use Rattle.model_short.specs.declared.RawEntry.{RawEntry}
use Rattle.model_short_laws.specs.Choosing.{raw_answer}
use Rattle.sheet_short_refusal.specs.declared.search.Search.{Search}

-- "From a fresh session", of n processes, "with L at its least": m entries are left, from the start of the buffer on.
pub record Begun (n m : ℕ) (t : Search) : Type 0 where
  pub processes : t.n ≡ n
  pub left : t.left ≡ m
  pub at : t.at ≡ 0
  pub session : t.session ≡ opened n (window n)
  pub counts : t.counts ≡ no_counts

-- t is the search behind the accepted entry x: one entry fewer is left, six bytes further on, with what the entry leaves.
pub record Behind (s : Search) (x : RawEntry) (t : Search) : Type 0 where
  pub processes : t.n ≡ s.n
  pub left : suc t.left ≡ s.left
  pub at : t.at ≡ s.at + 6
  pub accepted : record { code = 0; session = t.session; counts = t.counts } ≡ raw_answer s.n s.session s.counts x

-- The search behind an entry; where there is none, no entry is left or the session refuses this one.
abbrev pub Follows : Search → RawEntry → Option Search → Type 0
Follows s x (Some t) = Behind s x t
Follows s x None = 1 ≤ s.left → (raw_answer s.n s.session s.counts x).code ≢ 0

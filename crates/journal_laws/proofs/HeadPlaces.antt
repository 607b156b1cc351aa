-- The twelve places of a head, one by one.
use Rattle.std.proofs.Common.{ℕ, ◌<◌}
use borrow.Author.Count.{below_none, below_more}

pub record AtPlaces (P : ℕ → Type 0) : Type 0 where
  pub at_0 : P 0
  pub at_1 : P 1
  pub at_2 : P 2
  pub at_3 : P 3
  pub at_4 : P 4
  pub at_5 : P 5
  pub at_6 : P 6
  pub at_7 : P 7
  pub at_8 : P 8
  pub at_9 : P 9
  pub at_10 : P 10
  pub at_11 : P 11

pub at_each_place : (P : ℕ → Type 0) → AtPlaces P → (place : ℕ) → place < 12 → P place
at_each_place P h =
    let to_6 = below_more P 5 (below_more P 4 (below_more P 3 (below_more P 2 (below_more P 1 (below_more P 0 (below_none P) h.at_0) h.at_1) h.at_2) h.at_3) h.at_4) h.at_5 in
    below_more P 11 (below_more P 10 (below_more P 9 (below_more P 8 (below_more P 7 (below_more P 6 to_6 h.at_6) h.at_7) h.at_8) h.at_9) h.at_10) h.at_11

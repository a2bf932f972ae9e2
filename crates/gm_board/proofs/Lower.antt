-- Words of std and of the definitions that proofs here use.
pub use Rattle.gm_board.specs.Arrangements.{their_bits}
pub use Rattle.gm_board.specs.Binomials.{binomial}
pub use Rattle.gm_board.specs.Images.{image_mask}
pub use Rattle.gm_board.specs.Masks.{has_cell, mask_of, mask_rank, mask_unrank, tests_of}
pub use Rattle.gm_board.specs.Permutations.{permute}
pub use Rattle.gm_board.specs.Pieces.{HasPieces, cells_of}
pub use Rattle.gm_board.specs.Ranks.{members, rank}
pub use Rattle.gm_board.specs.Squares.{square_symmetries}
pub use Rattle.gm_board.specs.declared.square.TheConstants.{SQUARE_3, SQUARE_4, SQUARE_5}
pub use Rattle.gm_board.specs.inner.Groups.{IsGroup}
pub use Rattle.gm_board.specs.inner.Leaders.{image_by}
pub use Rattle.gm_board.specs.inner.Orbits.{IsLeastArrangement, IsLeastImage}
pub use Rattle.gm_board.specs.inner.Words.{least_mask, least_word, pair_row}
pub use Rattle.gm_board.specs.laws.Binomials.{binomial_none, binomial_zero, pascal}
pub use Rattle.gm_board.specs.laws.Groups.{group_below, group_length}
pub use Rattle.gm_board.specs.laws.Images.{group_image_within, image_identity}
pub use Rattle.gm_board.specs.laws.Lists.{contains_map, contains_unmap}
pub use Rattle.gm_board.specs.laws.Masks.{mask_below, mask_rank_at, mask_rank_below, mask_unrank_rank, members_small, tests_length, tests_mask, tests_more, tests_none}
pub use Rattle.gm_board.specs.laws.Permutations.{true_false}
pub use Rattle.gm_board.specs.laws.Ranks.{members_le}
pub use Rattle.gm_board.specs.laws.Squares.{table_group_4, table_group_5, table_of_5}
pub use Rattle.gm_board.specs.laws.Words.{images_after}
pub use Rattle.std.proofs.Common.{Bool, List, [], ap, ap₂, arith, drop, eqb, false, get_or, inl, inr, length, map, min, mul-le-mul_right, refl, subst, suc, sym, take, true, zero, ℕ, ◌%◌, ◌&&◌, ◌++◌, ◌+◌, ◌-◌, ◌/◌, ◌<◌, ◌^◌, ◌∙◌, ◌∷◌, ◌≡◌, ◌≢◌, ◌≤◌}
pub use Rattle.std.proofs.Math.Pow.{pow_mono}
pub use Rattle.std.proofs.lemmas.Bool.{cases_eq, cases_lt}
pub use Rattle.std.proofs.lemmas.List.Elements.{Contains-get_or}
pub use Rattle.std.proofs.lemmas.Nat.{mod_below, one_shl, shr_split}
pub use Rattle.std.proofs.lemmas.Nat.Bits.{bit_at_cat_high, bit_at_cat_low}
pub use Rattle.std.specs.Int.{bit_at, trailing_zeros, w32}
pub use Rattle.std.specs.List.{All, Contains, range_with_len}
pub use Rattle.std.specs.Prelude.{bit_and, count_ones}

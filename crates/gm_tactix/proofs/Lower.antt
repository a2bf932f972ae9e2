-- Words that proofs here use.
pub use Rattle.gm_pieces.specs.Common.{Bool, Contains, IsCanonical, List, [], all_at, and_left, and_right, ap, ap₂, arith, at, at_below, binomial, bit_and, board_game, cond-false, count_ones, eq-eqb, eqb, eqb-true, false, filter, get_or, has_cell, inl, inr, least_index, length, list_all, ltb, ltb-true, map, mask_rank, members, move_rules, position_after, range_with_len, refl, subst, sym, take, true, ℕ, ◌∙◌}
pub use Rattle.gm_tactix.specs.Board.{can_take, has_counter, side_of, tactix}
pub use Rattle.gm_tactix.specs.Segments.{is_segment, segment_cells, segment_length}
pub use Rattle.gm_tactix.specs.inner.CounterMasks.{counters_of}
pub use Rattle.gm_tactix.specs.inner.Lines.{line_cell}
pub use Rattle.gm_tactix.specs.laws.CounterMaskFacts.{counters_members}
pub use Rattle.gm_tactix.specs.laws.MoveFacts.{take_segment}
pub use Rattle.gm_tactix.specs.laws.SegmentFacts.{for_sides, square_small}
pub use Rattle.gm_tactix.specs.laws.TactixLaws.{side_high, side_low}
pub use Rattle.std.specs.Prelude.{◌&&◌, ◌++◌, ◌+◌, ◌-◌, ◌<◌, ◌^◌, ◌↔◌, ◌≡◌, ◌≢◌, ◌≤◌}

-- The words and lemmas that proofs about games on boards cite, passed on from one place. Declares nothing.
pub use Rattle.gm_game.specs.Rules.{AreHoles, IsAscending, IsCanonical, at}
pub use Rattle.std.proofs.Common.{Bool, List, None, Option, Some, [], ap, append_assoc, ap₂, arith, cond, eq-eqb, eqb, eqb-true, false, fold, get_or, get_or-set_other, get_or-set_same, inl, inr, le-leb, le-ltb, leb, leb-true, length, length-set, lt-ltb, ltb, ltb-true, map, max, min, not, pow_pos, refl, replicate, reverse, rules, set, set-set, subst, suc, sym, take, true, true≢false, w32, zero, zero-add, ℕ, ◌∙◌}
pub use Rattle.gm_board.specs.declared.cell.Cell.{Cell}
pub use Rattle.std.specs.List.{Contains, filter, filter_map, flat_map, list_all, list_any, range_with_len, sum_by}
pub use Rattle.std.proofs.lemmas.List.Elements.{Contains-append_left, Contains-append_right, Contains-get_or, filter-append}
pub use Rattle.gm_board.specs.declared.cell.Cell.TheVariants.{Empty, Mine, Theirs}
pub use Rattle.gm_game.specs.declared.position.End.{End}
pub use Rattle.gm_board.specs.Pieces.{HasPieces, mine_mask, their_mask}
pub use Rattle.gm_game.specs.Children.{HasSame, set_of}
pub use Rattle.gm_board.specs.inner.Groups.{IsGroup, is_group_table}
pub use Rattle.gm_board.specs.inner.Orbits.{IsLeastArrangement, IsLeastImage, pieces_index}
pub use Rattle.gm_game.specs.Boards.{IsNumbered, least_image, least_index, next_images, position_of}
pub use Rattle.gm_game.specs.Texts.{IsPaddedText}
pub use Rattle.gm_board.specs.Permutations.{IsPermutationOf, permute, same_list}
pub use Rattle.gm_game.specs.Shown.{IsPlain, IsShown, is_plain}
pub use Rattle.gm_board.specs.laws.Marks.{IsRead, map_once}
pub use Rattle.gm_game.specs.declared.position.End.TheVariants.{Lose, Win}
pub use Rattle.gm_game.specs.declared.position.Position.{Position}
pub use Rattle.gm_board.specs.declared.square.TheConstants.{SQUARE_4, SQUARE_5}
pub use Rattle.gm_board.specs.laws.Permutations.{all_at, permute_get, permute_length, same_list_true}
pub use Rattle.gm_board.specs.laws.CellCounts.{all_cells, cells_counted, empty_cell, mine_cell, mine_or_empty, mine_turned, their_cell, their_or_empty, theirs_turned, turned_mine}
pub use Rattle.gm_board.specs.laws.Lists.{all_from, and_both, and_false, and_left, and_right, and_true, contains_cases, contains_head, contains_later, contains_map, contains_range, filter_from, filter_to, least_le, lone_in, range_below, range_more}
pub use Rattle.std.proofs.lemmas.Nat.{and_le_l, and_le_r, div-mul-add, mod-mul-add, one_shl, or_lt, pow-add}
pub use Rattle.gm_board.specs.laws.Groups.{any_at, group_from_table, group_inverse, group_length, group_permutation, image_back, image_length, image_set, image_slide, image_sum, undone}
pub use Rattle.gm_board.specs.laws.Patterns.{any_from, filled_image, or_right, same_tests}
pub use Rattle.std.proofs.lemmas.List.{append-nil, ext_get_or, get_or-map, get_or-take, get_or_past, length-append, length-map, length-replicate, length-reverse, length-take, length-take-le, map-id, map_more, map_push, reverse-append, reverse-reverse, set-get_or, take-take, take_all, take_more, take_more_set}
pub use Rattle.gm_board.specs.laws.Pieces.{arrangement_pieces, index_of_masks, mine_again, theirs_again}
pub use Rattle.gm_board.specs.laws.Arrangements.{arrangements_fit}
pub use Rattle.gm_board.specs.laws.Binomials.{binomial_past, binomial_small, binomial_zero, pascal}
pub use Rattle.std.specs.Prelude.{bit_and, bit_or, count_ones}
pub use Rattle.std.specs.Int.{bit_at, bit_not, trailing_zeros}
pub use Rattle.std.proofs.lemmas.Nat.Bits.{bit_at-pow_other, bit_at-pow_same, bit_at-zero, bit_at_above, bit_at_ones, bit_at_set_other, bit_at_set_same, same_from_bits_below, shr_and_one}
pub use Rattle.gm_board.specs.laws.Images.{board_length, group_image_back, group_image_within, image_board, image_pieces, image_tests}
pub use Rattle.std.proofs.lemmas.Bool.{cases_Bool, cases_eq, cases_lt, cond-false, cond-true, cond_below, cond_both, false_from_ne_true, ne_eqb, not-true, or_cases}
pub use Rattle.gm_board.specs.Cells.{cell_at, is_empty, is_mine, is_taken, is_theirs}
pub use Rattle.gm_board.specs.laws.NextCells.{cell_below, next_cell, none_left, rest_all}
pub use Rattle.gm_board.specs.Squares.{cell_text}
pub use Rattle.std.proofs.Math.Nat.{div-div-eq-div-mul, mod-eq_of_lt}
pub use Rattle.gm_board.specs.Patterns.{fills, has_filled, keeps_patterns}
pub use Rattle.gm_board.specs.laws.Filters.{filter_few, filter_in, filter_out, filter_room, nil_or, range_in}
pub use Rattle.std.proofs.lemmas.List.FromFn.{get_or-map-range_with_len, get_or-range_with_len, length-map-range_with_len, length-range_with_len, map-range_with_len_more}
pub use Rattle.gm_board.specs.laws.MaskChanges.{has_and, has_none, has_not, has_or, same_all, same_within}
pub use Rattle.gm_board.specs.Masks.{has_cell, mask_of, mask_rank, mask_unrank, bit_weight}
pub use Rattle.gm_board.specs.laws.Words.{images_after, own_least}
pub use Rattle.gm_board.specs.laws.Orbits.{least_itself, least_pieces, least_rank}
pub use Rattle.gm_board.specs.inner.Words.{least_word, pair_row}
pub use Rattle.gm_board.specs.laws.Masks.{mask_below, mask_rank_at, mask_tests_small, mask_unrank_rank, members_small, tests_length, tests_mask, tests_more, tests_none, tests_unrank, weight_bit}
pub use Rattle.gm_board.specs.Ranks.{members, rank, unrank}
pub use Rattle.gm_board.specs.laws.Ranks.{members_le, rank_below, rank_unrank, unrank_length, unrank_members, unrank_rank}
pub use Rattle.std.proofs.lemmas.Bool.Decides.{nat_tests}
pub use Rattle.gm_board.specs.laws.BoardMasks.{pattern_filled}
pub use Rattle.gm_board.specs.BoardMasks.{pattern_mask, turned}
pub use Rattle.gm_board.specs.laws.Turned.{permute_turned, turned_cell, turned_twice}
pub use Rattle.gm_game.proofs.PlainTexts.{plain_append, plain_map}
pub use Rattle.std.proofs.Math.Pow.{pow-lt, pow_mono}
pub use Rattle.gm_game.specs.Ascending.{put, put_all}
pub use Rattle.gm_game.proofs.PuttingSteps.{put_more_none, put_more_some}
pub use Rattle.gm_game.proofs.SetLemmas.{same_position}
pub use Rattle.gm_board.specs.laws.Squares.{square_group, table_group_4, table_of_4, table_of_5}
unfoldable pub use Rattle.gm_board.specs.Arrangements.{arrangement_index, arrangements}
unfoldable pub use Rattle.gm_board.specs.Binomials.{binomial}
unfoldable pub use Rattle.gm_board.specs.Images.{board_of, image_mask}
unfoldable pub use Rattle.gm_board.specs.Cells.{number_of}
unfoldable pub use Rattle.gm_board.specs.Squares.{square_symmetries}
unfoldable pub use Rattle.gm_board.specs.Masks.{tests_of}
pub use Rattle.gm_pieces.specs.inner.MoveChildren.{position_after}
pub use Rattle.gm_pieces.specs.MoveGames.{IsMove, IsMoveGame, IsMoveSymmetric, MoveGame, board_game, goes_on, move_rules, moves_by, is_undecided}
unfoldable pub use Rattle.gm_pieces.specs.MoveGames.{before_at, befores, steps}
pub use Rattle.gm_pieces.specs.MoveTexts.{AreTexts}
pub use Rattle.gm_pieces.specs.SideTexts.{cell_char}
unfoldable pub use Rattle.gm_pieces.specs.SideTexts.{cells_text}
pub use Rattle.gm_pieces.specs.Sides.{IsStep, WasStep, brought_back, mover_gone, least_index_under}
unfoldable pub use Rattle.gm_pieces.specs.Sides.{board_index, board_numbered}
pub use Rattle.gm_pieces.specs.Steps.{step_number}
unfoldable pub use Rattle.gm_pieces.specs.Steps.{from_point, to_point}
pub use Rattle.gm_pieces.specs.laws.CellFacts.{filled_turned, image_cell, image_fills, image_number}
pub use Rattle.gm_pieces.specs.laws.ChildFacts.{all_are_moves, listed_move, none_are_moves, one_listed}
pub use Rattle.gm_pieces.specs.laws.Images.{permuted_group}
pub use Rattle.gm_pieces.specs.laws.MaskFacts.{index_is, least_has_pieces, least_is, numbered_is, own_cells, own_patterns, their_cells, their_patterns}
pub use Rattle.gm_pieces.specs.laws.MoveFacts.{IsLeft, back_again, gone_again, placed_left, set_and_back, step_left}
pub use Rattle.gm_pieces.specs.laws.MoveLaws.{all_befores, all_steps, before_none, before_room, before_some, move_game_lawful, move_in, step_in, step_listed}
pub use Rattle.gm_pieces.specs.laws.NumberFacts.{HasNumbers, board_back, board_numbers, index_back, index_below}
pub use Rattle.gm_pieces.specs.laws.SideTextFacts.{cell_plain, text_length, text_once, text_plain}
pub use Rattle.gm_pieces.specs.laws.StepFacts.{from_back, number_below, same_step, to_back}
pub use Rattle.gm_pieces.specs.laws.TextFacts.{texts_are_shown}
pub use Rattle.gm_pieces.specs.laws.Tables.{agree, agree_same, at_all, at_below, at_each}

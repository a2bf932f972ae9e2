use Rattle.gm_find.proofs.along.+turns.Given as goal

abbrev pub decreases-tally_after : goal.decreases-tally_after
decreases-tally_after g l = l.left

abbrev pub decreases-tally_from : goal.decreases-tally_from
decreases-tally_from g l = l.left

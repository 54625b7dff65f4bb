use Rattle.logical_types.proofs.decimals.printing.+push_sized.Given as goal

abbrev pub decreases-push_sized : goal.decreases-push_sized
decreases-push_sized l = l.places

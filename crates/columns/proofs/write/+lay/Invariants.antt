use Rattle.columns.proofs.write.+lay.Given as goal

abbrev pub decreases-lay : goal.decreases-lay
decreases-lay l = l.v

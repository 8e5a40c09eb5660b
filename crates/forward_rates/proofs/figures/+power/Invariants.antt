use Rattle.forward_rates.proofs.figures.+power.Given as goal

-- proposed from what the function passes where it calls itself
abbrev pub decreases-power : goal.decreases-power
decreases-power l = l.n

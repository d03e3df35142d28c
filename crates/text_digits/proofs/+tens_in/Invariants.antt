use Rattle.text_digits.proofs.+tens_in.Given as goal

abbrev pub decreases-tens_in : goal.decreases-tens_in
decreases-tens_in l = l.x

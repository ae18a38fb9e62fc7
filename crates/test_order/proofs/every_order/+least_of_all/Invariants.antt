use Rattle.test_order.proofs.every_order.+least_of_all.Given as goal

abbrev pub decreases-least_of_all : goal.decreases-least_of_all
decreases-least_of_all l = l.left

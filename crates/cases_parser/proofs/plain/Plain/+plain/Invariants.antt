use Rattle.cases_parser.proofs.plain.Plain.+plain.Given as goal

abbrev pub decreases-trees : goal.decreases-trees
decreases-trees l = l.depth

abbrev pub decreases-trees_of : goal.decreases-trees_of
decreases-trees_of l = l.depth

abbrev pub decreases-regular : goal.decreases-regular
decreases-regular l = l.depth

abbrev pub decreases-optional : goal.decreases-optional
decreases-optional l = l.depth

abbrev pub decreases-list : goal.decreases-list
decreases-list l = l.depth

abbrev pub decreases-sequences : goal.decreases-sequences
decreases-sequences l = l.depth

abbrev pub decreases-elements : goal.decreases-elements
decreases-elements l = l.depth

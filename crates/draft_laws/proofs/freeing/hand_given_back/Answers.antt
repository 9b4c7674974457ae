use Rattle.draft_laws.proofs.GivenBack.{hand_given_back, one_freed_more}
use Rattle.draft_laws.proofs.freeing.hand_given_back.Goals as goal

pub returns-clause-back : goal.returns-clause-back
returns-clause-back c g base taken change n hand hands old new freed draft within is group counts of_group put gives =
    hand_given_back g base taken change n hand hands old new freed draft within is group counts of_group put gives

pub returns-clause-more : goal.returns-clause-more
returns-clause-more c = one_freed_more

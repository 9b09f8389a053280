use Rattle.asking.proofs.ListAnswers.{list_answers}
use Rattle.asking.proofs.listing.fields_settled.Goals as goal

pub returns-clause-is : goal.returns-clause-is
returns-clause-is c = search (list_answers, c.in_ok-version.was)

pub returns-clause-left : goal.returns-clause-left
returns-clause-left c = search (list_answers, c.in_ok-version.was)

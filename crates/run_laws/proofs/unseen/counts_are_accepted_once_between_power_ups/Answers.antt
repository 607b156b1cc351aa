use Rattle.run_laws.proofs.Between.{stays_lawful, few, counts_once}
use Rattle.run_laws.proofs.unseen.counts_are_accepted_once_between_power_ups.Goals as goal

pub returns : goal.returns
returns c = record {
  lawful = stays_lawful;
  between = λ next start now steps answers count lawful none run. few count next start now steps answers lawful none run;
  once = counts_once;
}

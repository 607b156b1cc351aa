-- A summary in memory as the summary of the specification.
use Rattle.paygo_spec.specs.History.{Summary as SummaryOf}
use Rattle.bank_journal.specs.declared.summary.Summary.{Summary}

abbrev pub summary_of : Summary → SummaryOf
summary_of summary =
    record {
      limit = summary.window.limit;
      last = summary.window.last;
      bits = summary.window.bits;
      left = summary.clock.left;
      free = summary.clock.free;
      fails = summary.clock.fails;
      block = summary.clock.block;
    }

-- `transcript::report::report_line` meets its contract: the arm knows the variant, and the reply goes by it.
use borrow.Author.Rules.{rules}
use Rattle.answers.specs.Answers.{reply}
use Rattle.transcript.specs.Lines.{spelled, reply_line, report_line}
use Rattle.transcript.proofs.report.report_line.Goals as goal

pub returns-in-Done : goal.returns-in-Done
unfolding report_line reply_line spelled reply
returns-in-Done c =
    record {
      value = rw c.in-Done.is c.put_report.ensures.value;
      out_after = rw c.in-Done.is c.put_report.ensures.out_after;
    }

pub returns-in-Deferred : goal.returns-in-Deferred
unfolding report_line reply_line spelled reply
returns-in-Deferred c =
    record {
      value = rw c.in-Deferred.is c.put_report-in-Deferred.ensures.value;
      out_after = rw c.in-Deferred.is c.put_report-in-Deferred.ensures.out_after;
    }

pub returns-in-Duplicate : goal.returns-in-Duplicate
unfolding report_line reply_line spelled reply
returns-in-Duplicate c =
    record {
      value = rw c.in-Duplicate.is c.put_report-in-Duplicate.ensures.value;
      out_after = rw c.in-Duplicate.is c.put_report-in-Duplicate.ensures.out_after;
    }

pub returns-in-Refused : goal.returns-in-Refused
unfolding report_line reply_line spelled reply
returns-in-Refused c =
    record {
      value = rw (c.in-Refused.is, ← c.number.ensures) c.put_report-in-Refused.ensures.value;
      out_after = rw (c.in-Refused.is, ← c.number.ensures) c.put_report-in-Refused.ensures.out_after;
    }

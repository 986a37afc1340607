-- `splicing::put_file` meets its contract: the site's line and the others have room, or nothing is put.
use Prim.Native.Nat.{ℕ}
use mathlib.Core.Path.{◌≡◌, refl}
use mathlib.Core.List.{List, ◌++◌}
use Rattle.saved.specs.declared.Version.TheVariants.{Second}
use Rattle.saved.specs.Format.{site_line}
use Rattle.saving.specs.Documents.{line_bytes, site_with}
use Rattle.codec.proofs.Answers.{front-short, front_fits, body-short, body-room, body-put}
use Rattle.splicing.specs.Splicing.{between}
use borrow.Author.Rules.{rules}
use Rattle.splicing.proofs.put_file.Goals.{Start}
use Rattle.splicing.proofs.put_file.Goals as goal

-- the bytes of the site's line, and those after it
abbrev head : Start → List ℕ
head s = site_line Second (site_with s.args.number s.args.clock)

abbrev others : Start → List ℕ
others s = between s.args.front.now (line_bytes s.args.line) s.args.back.now

pub returns-in_default : goal.returns-in_default
returns-in_default c =
    let all = front-short (head (goal.at.returns-in_default c).Start) (others (goal.at.returns-in_default c).Start) (head (goal.at.returns-in_default c).Start ++ others (goal.at.returns-in_default c).Start) c.args.out.now refl c.measure_site_with-head.ensures c.in_default.is in
    record {
      value = all.0;
      out_after = all.1;
    }

pub returns-in_default-rest : goal.returns-in_default-rest
returns-in_default-rest c =
    let all = body-short (head (goal.at.returns-in_default-rest c).Start) (others (goal.at.returns-in_default-rest c).Start) (head (goal.at.returns-in_default-rest c).Start ++ others (goal.at.returns-in_default-rest c).Start) c.args.out.now refl c.measure_site_with-head.ensures c.in-Some.is
    c.measure-rest.ensures c.in_default-rest.is in
    record {
      value = all.0;
      out_after = all.1;
    }

pub put-requires : goal.put-requires
put-requires c =
    record {
      count_bound = c.requires;
      back_in_bounds = body-room (head (goal.at.put-requires c).Start) (others (goal.at.put-requires c).Start) (head (goal.at.put-requires c).Start ++ others (goal.at.put-requires c).Start) c.args.out.now refl c.measure_site_with-head.ensures c.in-Some.is
          c.measure-rest.ensures c.in-Some-rest.is (c.put_site_with-at.ensures.value, c.put_site_with-at.ensures.out_after);
    }

pub returns : goal.returns
returns c =
    let all = body-put (head (goal.at.returns c).Start) (others (goal.at.returns c).Start) (head (goal.at.returns c).Start ++ others (goal.at.returns c).Start) c.args.out.now refl c.measure_site_with-head.ensures c.in-Some.is
    c.measure-rest.ensures c.in-Some-rest.is (c.put_site_with-at.ensures.value, c.put_site_with-at.ensures.out_after) c.put.ensures in
    record {
      value = all.0;
      out_after = all.1;
    }

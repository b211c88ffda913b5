-- The catalog that a statement leaves.
use Rattle.std.proofs.Common.{◌≡◌, ap, sym, ◌∙◌, subst, refl, [], Result, Ok, Err, false}
use Rattle.std.specs.Result.{result_unwrap_or}
use Rattle.ae_base.specs.Results.{◌>>=◌}
use Rattle.ae_base.specs.declared.faults.SqlFault.{SqlFault}
use Rattle.catalog.specs.Catalogs.{Catalog}
use Rattle.catalog.specs.Definitions.{defined_by, effect_of, followed}
use Rattle.engine.specs.Step.{Defined, Outcome, done_by, outcome}
use Rattle.sql_tree.specs.Bound.{BoundStatement}
use Rattle.sql_tree.specs.Bound as bound
use Rattle.sql_tree.specs.Kinds.{is_defining}
use Rattle.sql_tree.specs.declared.bound.BoundDefinition.{BoundDefinition}
use Rattle.transactions.specs.Counted.{Counted, CountedOutcome, Execution, counted, counted_step}
use Rattle.transactions.specs.Journal.{is_lasting}
use Rattle.transactions.proofs.Interface.{work_catalog}

-- the one that it defines, or the old one
abbrev pub catalog_behind : Catalog → BoundStatement → Catalog
catalog_behind catalog (bound.Definition d) = result_unwrap_or (defined_by catalog d) catalog
catalog_behind catalog other = catalog

module _ (c : Counted) (e : Execution) where
  abbrev by_outcome : BoundStatement → Outcome → CountedOutcome
  by_outcome s o = counted c s o.answer o.world

  abbrev by_statement : BoundStatement → CountedOutcome
  by_statement s = by_outcome s (outcome c.world (done_by c.world e.bound e.encs s e.params))

  abbrev by_catalog : BoundDefinition → Result Catalog SqlFault → CountedOutcome
  by_catalog d r =
      by_outcome (bound.Definition d)
      (outcome c.world (r >>= λ new. Ok (record { answer = Defined; world = record { catalog = new; contents = followed [] (effect_of c.world.catalog d) c.world.contents } })))

  defined_left : (d : BoundDefinition) (r : Result Catalog SqlFault) → (by_catalog d r).after.world.catalog ≡ result_unwrap_or r c.world.catalog
  defined_left d (Ok new) = refl
  defined_left d (Err f) = refl

  -- with counts too
  pub step_leaves : (counted_step c e).after.world.catalog ≡ catalog_behind c.world.catalog e.bound.statement
  step_leaves = by e.bound.statement refl
    where
      by : (s : BoundStatement) → e.bound.statement ≡ s → (counted_step c e).after.world.catalog ≡ catalog_behind c.world.catalog e.bound.statement
      by (bound.Definition d) is = ap (λ s. (by_statement s).after.world.catalog) is ∙ defined_left d (defined_by c.world.catalog d) ∙ ap (catalog_behind c.world.catalog) (sym is)
      by (bound.Insert i) is = work_catalog c e (ap is_defining is) ∙ ap (catalog_behind c.world.catalog) (sym is)
      by (bound.Update u) is = work_catalog c e (ap is_defining is) ∙ ap (catalog_behind c.world.catalog) (sym is)
      by (bound.Delete d) is = work_catalog c e (ap is_defining is) ∙ ap (catalog_behind c.world.catalog) (sym is)
      by (bound.Select q) is = work_catalog c e (ap is_defining is) ∙ ap (catalog_behind c.world.catalog) (sym is)
      by (bound.Control k) is = work_catalog c e (ap is_defining is) ∙ ap (catalog_behind c.world.catalog) (sym is)

  refused_left : (d : BoundDefinition) (r : Result Catalog SqlFault) → is_lasting (bound.Definition d) (by_catalog d r).answer ≡ false → (by_catalog d r).after.world.catalog ≡ c.world.catalog
  refused_left d (Ok new) h = absurd cc
  refused_left d (Err f) h = refl

  -- what doesn't last leaves the old one
  pub passing_leaves : is_lasting e.bound.statement (counted_step c e).answer ≡ false → (counted_step c e).after.world.catalog ≡ c.world.catalog
  passing_leaves passes = by e.bound.statement refl
    where
      by : (s : BoundStatement) → e.bound.statement ≡ s → (counted_step c e).after.world.catalog ≡ c.world.catalog
      by (bound.Definition d) is =
          ap (λ s. (by_statement s).after.world.catalog) is ∙ refused_left d (defined_by c.world.catalog d) (subst (λ s. is_lasting s (by_statement s).answer ≡ false) is passes)
      by (bound.Insert i) is = work_catalog c e (ap is_defining is)
      by (bound.Update u) is = work_catalog c e (ap is_defining is)
      by (bound.Delete d) is = work_catalog c e (ap is_defining is)
      by (bound.Select q) is = work_catalog c e (ap is_defining is)
      by (bound.Control k) is = work_catalog c e (ap is_defining is)

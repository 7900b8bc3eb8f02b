-- The types of houses, their variants and the parts of a house, passed on under one name.
pub use Rattle.model_house.specs.declared.Place.{Place}
pub use Rattle.model_house.specs.declared.Place.TheVariants.{ProposeWard, StepWard, LearnWard, WriteTable, ProposePoll, StepPoll}
pub use Rattle.model_house.specs.declared.Place.TheVariants.{ReadTable, WriteHouse}
pub use Rattle.model_house.specs.declared.Stance.{Stance}
pub use Rattle.model_house.specs.declared.Stance.TheVariants.{Idle, Working, Exhausted, Crashed, Decided}
pub use Rattle.model_house.specs.declared.Worker.{Worker}
pub use Rattle.model_house.specs.declared.House.{House}
pub use Rattle.model_house.specs.declared.View.{View}
pub use Rattle.model_house.specs.Answers.{HouseStepped}
pub use Rattle.model_house.specs.House.{Table}

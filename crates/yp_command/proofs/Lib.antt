pub mod Coming
pub mod KeyLaws
pub mod ListLaws
pub mod MemberLaws
